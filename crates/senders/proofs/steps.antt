-- Steps of the proofs of functions: for this crate alone.
pub mod NameSteps
pub mod PrintSteps
pub mod PartSteps
pub mod FollowSteps
pub mod KeptSteps
pub mod RowSteps
pub mod ResentSteps
pub mod JudgeSteps
pub mod SentSteps
pub mod StateSteps
