pub mod laws
pub mod theorems
pub mod steps
