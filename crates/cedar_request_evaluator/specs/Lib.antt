pub mod Attributes
pub mod Membership
pub mod Refusals
pub mod Known
pub mod Knowledge
pub mod Nodes
pub mod Bound
