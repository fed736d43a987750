-- What is promised, proved.
pub mod ReplayCases
pub mod StoredLines
