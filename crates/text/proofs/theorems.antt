-- What is promised, proved.
pub mod SkipLaws
pub mod ParserViable
pub mod ByteClasses
