pub mod laws
pub mod steps
