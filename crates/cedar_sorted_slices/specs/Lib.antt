pub mod Classes
pub mod Ascending
pub mod Unique
pub mod Images
