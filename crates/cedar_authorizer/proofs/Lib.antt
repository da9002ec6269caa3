pub mod Tallies
pub mod ResidualPolicies
pub mod Taken
