-- Steps of the proofs of functions: for this crate alone.
pub mod GatheringLaws
pub mod FeedingLaws
pub mod LineLaws
pub mod StartLaws
pub mod ResumeLaws
