-- What is promised, proved.
pub mod ImageRoundTrip
pub mod Demands
pub mod RestIsSilent
