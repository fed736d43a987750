-- What the documents speak of: the definitions that a reader has to believe.
pub mod Bytes
pub mod Division
pub mod Value
pub mod Fitting
pub mod Storable
pub mod Cells
pub mod Forms
