pub mod Kinds
pub mod Outcomes
pub mod Texts
pub mod Laws
pub mod Compact
