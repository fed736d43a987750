-- What inner functions promise, and the forms of their memory: nobody has to believe these.
pub mod EnumAnswers
pub mod ByteTables
pub mod TokenTable
pub mod ParseAnswers
pub mod Walks
pub mod Syntaxes
