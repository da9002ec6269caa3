pub mod Parts
pub mod Stored
pub mod Named
pub mod Answered
