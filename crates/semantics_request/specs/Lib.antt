pub mod Entities
pub mod Requests
pub mod Evaluator
pub mod Put
pub mod Residuals
pub mod Laws
pub mod Worked
