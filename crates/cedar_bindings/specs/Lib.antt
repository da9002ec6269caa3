pub mod Names
pub mod Bindings
pub mod Requests
