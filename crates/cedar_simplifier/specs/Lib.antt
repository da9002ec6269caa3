pub mod Kept
pub mod Simplified
pub mod Promises
