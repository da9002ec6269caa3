pub mod Conditions
pub mod Nodes
pub mod Answers
