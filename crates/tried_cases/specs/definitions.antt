-- What the stored cases are said in.
pub mod TriedOf
