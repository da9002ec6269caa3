pub mod Halving
pub mod FirstItems
pub mod Neighbours
pub mod Ends
pub mod Distinct
pub mod Items
