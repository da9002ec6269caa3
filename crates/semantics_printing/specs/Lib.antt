pub mod Phrases
pub mod PolicyTexts
pub mod Writable
pub mod Texts
