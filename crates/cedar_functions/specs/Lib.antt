pub mod Extensions
pub mod Answers
pub mod Functions
pub mod Laws
