pub mod Values
pub mod Requests
pub mod Stores
pub mod Calls
