-- What the documents speak of: the definitions that a reader has to believe.
pub mod BenchImage
pub mod Calls
pub mod Runs
pub mod DemandOne
pub mod DemandTwo
pub mod DemandThree
