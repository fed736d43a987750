-- What inner functions promise, and the forms of their memory: nobody has to believe these.
pub mod Adding
pub mod Moving
pub mod Meeting
