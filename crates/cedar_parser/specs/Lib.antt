pub mod Refused
pub mod Waiting
pub mod SoFar
pub mod Ahead
pub mod Meant
pub mod Complete
pub mod Places
