pub mod definitions
pub mod inner_contracts
