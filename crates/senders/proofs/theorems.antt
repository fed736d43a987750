-- What is promised, proved.
pub mod AcceptedSound
pub mod EditedText
