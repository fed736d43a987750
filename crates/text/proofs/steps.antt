-- Steps of the proofs of functions: for this crate alone.
pub mod StepLaws
pub mod RunSteps
pub mod LexLaws
pub mod EndLaws
