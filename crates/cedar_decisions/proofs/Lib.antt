pub mod Added
pub mod Decided
pub mod Partly
