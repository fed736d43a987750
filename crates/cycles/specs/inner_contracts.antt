-- What inner functions promise, and the forms of their memory: nobody has to believe these.
pub mod Bundles
pub mod TotalMachine
pub mod Evaluation
pub mod CellTokens
pub mod PlaneMemory
pub mod RowMemory
pub mod FreshMemory
pub mod FieldReads
pub mod HeaderReads
pub mod LineReads
pub mod ReadSets
pub mod AllRules
pub mod GuardKinds
pub mod Failing
pub mod Finding
pub mod CycleMemory
