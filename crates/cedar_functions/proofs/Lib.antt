pub mod Read
pub mod Tested
pub mod Moments
pub mod Kept
pub mod Made
