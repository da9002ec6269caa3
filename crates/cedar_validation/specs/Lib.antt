pub mod Tables
pub mod Faults
pub mod ValidationErrors
pub mod TypeOfTree
pub mod Branches
