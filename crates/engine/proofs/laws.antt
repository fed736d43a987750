-- Laws about definitions and about the forms of memory that contracts speak of: crates above may cite them.
pub mod BenchLaws
pub mod LeavesLaws
pub mod Replies
pub mod CallLaws
pub mod RunLaws
pub mod SentAgainLaws
pub mod NumberLaws
pub mod CheckLaws
pub mod FollowsLaws
pub mod LineLaws
pub mod ServingLaws
pub mod SheetLaws
pub mod ClassLaws
pub mod EntityLaws
