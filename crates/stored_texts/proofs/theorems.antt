-- What is promised, proved.
pub mod StoredTexts
pub mod StoredClasses
