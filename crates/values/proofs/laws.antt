-- Laws about definitions and about the forms of memory that contracts speak of: crates above may cite them.
pub mod Variants
pub mod WholeLaws
pub mod DivisionLaws
pub mod RealLaws
pub mod ByteLaws
pub mod OneByte
pub mod PutLaws
pub mod DigitLaws
pub mod StorableLaws
pub mod SameLaws
pub mod FittingLaws
pub mod CellLaws
pub mod FormLaws
