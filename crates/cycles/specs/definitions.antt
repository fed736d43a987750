-- What the documents speak of: the definitions that a reader has to believe.
pub mod Outcome
pub mod Store
pub mod Spots
pub mod Reference
pub mod Bindings
pub mod Cycle
pub mod Fields
pub mod Header
pub mod Record
pub mod Row
pub mod Readings
pub mod Planes
pub mod ClosedSet
pub mod Reads
pub mod Quiescence
pub mod SoundStores
