pub mod Decisions
pub mod Sets
pub mod Partial
