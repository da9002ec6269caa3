pub mod Policies
pub mod Links
pub mod PolicySets
