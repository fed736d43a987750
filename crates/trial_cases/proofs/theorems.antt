-- What is promised, proved.
pub mod TrialCases
