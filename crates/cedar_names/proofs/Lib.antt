pub mod Split
pub mod LookUps
pub mod SameReference
pub mod Clones
pub mod Qualified
