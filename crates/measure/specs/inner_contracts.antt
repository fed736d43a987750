-- What inner functions promise, and the forms of their memory: nobody has to believe these.
pub mod Measured
