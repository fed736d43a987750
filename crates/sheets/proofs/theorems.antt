-- What is promised, proved.
pub mod SheetSizes
pub mod FoldExtremes
pub mod SheetTrials
