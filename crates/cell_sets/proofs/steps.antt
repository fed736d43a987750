-- Steps of the proofs of functions: this crate alone uses them.
pub mod AddingSteps
pub mod MovingSteps
pub mod MeetingSteps
