-- What the documents speak of: the definitions that a reader has to believe.
pub mod Layout
pub mod Sizes
pub mod Rows
pub mod Folds
pub mod Extremes
pub mod Closing
pub mod Sheet
