pub mod Verdicts
pub mod Responses
pub mod ResidualPolicies
