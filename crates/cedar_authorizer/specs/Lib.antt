pub mod Mistakes
pub mod Policies
pub mod Verdicts
pub mod Responses
pub mod PartialResponses
pub mod Tallies
