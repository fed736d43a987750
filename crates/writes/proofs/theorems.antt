-- What is promised, proved.
pub mod Standing
