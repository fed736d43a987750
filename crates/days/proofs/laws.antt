-- Laws about definitions and about the forms of memory that contracts speak of: crates above may cite them.
pub mod SpotNumbers
pub mod ChoosingLaws
pub mod ChosenReads
pub mod ImageFront
pub mod DayLaws
pub mod SizeLaws
