-- What the documents speak of: the definitions that a reader has to believe.
pub mod Sender
pub mod Answer
pub mod Line
pub mod Follow
pub mod Row
pub mod Turns
pub mod Fingerprint
pub mod StateImage
pub mod SoundState
