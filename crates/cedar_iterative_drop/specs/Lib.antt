pub mod Rows
pub mod Sums
pub mod Branches
pub mod FirstItems
