-- What is promised, proved.
pub mod PrintedReadsBack
pub mod WholeDivision
pub mod SameResults
