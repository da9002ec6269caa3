pub mod Walks
pub mod Moved
pub mod TreeOps
pub mod Substitutions
pub mod Clashes
pub mod DistinctKeys
pub mod KeyLemmas
pub mod InOrder
