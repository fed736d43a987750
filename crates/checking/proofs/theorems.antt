-- What is promised, proved.
pub mod AdmittedLaws
pub mod EntitySpans
