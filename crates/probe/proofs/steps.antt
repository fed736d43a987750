-- Steps of the proofs of functions: for this crate alone.
pub mod TriedSteps
