pub mod ByKind
pub mod Compared
pub mod Members
pub mod Paths
pub mod Calls
pub mod Puts
pub mod Trees
pub mod Kept
