-- Theorems: what the definitions compute.
pub mod StoredTried
