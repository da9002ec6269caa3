pub mod Policies
pub mod Decisions
pub mod Authorization
pub mod ResidualPolicies
pub mod DecisionLaws
pub mod Laws
pub mod Worked
