-- Steps of the proofs of functions: for this crate alone.
pub mod LineSteps
pub mod DaySteps
pub mod SheetSteps
