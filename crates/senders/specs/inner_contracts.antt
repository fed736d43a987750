-- What inner functions promise, and the forms of their memory: nobody has to believe these.
pub mod TotalFollow
pub mod SenderMemory
pub mod Judging
pub mod Advancing
pub mod RowMemory
pub mod PrintSums
