-- What the documents speak of: the definitions that a reader has to believe.
pub mod Bytes
pub mod Tokens
pub mod ByteClass
pub mod Syntax
pub mod Readers
pub mod Grammar
pub mod Parse
pub mod Answers
pub mod Language
pub mod Viable
