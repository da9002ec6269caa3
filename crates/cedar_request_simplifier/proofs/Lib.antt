pub mod PlainValues
pub mod Operands
pub mod PathSteps
pub mod Lifted
pub mod Later
