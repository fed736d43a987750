-- Laws about definitions and about the forms of memory that contracts speak of: crates above may cite them.
pub mod LayoutLaws
pub mod FedRows
pub mod RowLaws
pub mod FoldLaws
pub mod ClosingLaws
pub mod SheetLaws
pub mod OrderLaws
pub mod ForemostLaws
