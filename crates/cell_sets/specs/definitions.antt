-- What the documents speak of: the definitions that a reader has to believe.
pub mod Sets
