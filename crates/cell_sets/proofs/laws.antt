-- Laws about definitions and about the forms of memory that contracts speak of: crates above may cite them.
pub mod BitLaws
pub mod SetLaws
pub mod MovingLaws
