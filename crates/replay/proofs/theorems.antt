-- What is promised, proved.
pub mod Replayed
