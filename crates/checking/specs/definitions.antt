-- What the documents speak of: the definitions that a reader has to believe.
pub mod Faults
pub mod Scope
pub mod PriorityFaults
pub mod CountFaults
pub mod NameFaults
pub mod KindFaults
pub mod Verdict
pub mod EntitySpan
pub mod Admitted
