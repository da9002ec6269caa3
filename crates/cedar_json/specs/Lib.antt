pub mod Values
pub mod Entities
pub mod Refusals
pub mod NearNames
