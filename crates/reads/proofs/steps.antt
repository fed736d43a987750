-- Steps of the proofs of functions: this crate alone.
pub mod SetSteps
pub mod ScanSteps
pub mod RuleSteps
