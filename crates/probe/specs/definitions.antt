-- What is shown: the definitions that a reader has to believe.
pub mod Tried
