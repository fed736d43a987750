pub mod inner_contracts
