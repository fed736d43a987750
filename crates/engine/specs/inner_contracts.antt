-- What inner functions promise, and the forms of their memory: nobody has to believe these.
pub mod LineMemory
pub mod Serving
pub mod Refusals
pub mod Benches
