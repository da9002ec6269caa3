pub mod Nothing
pub mod Loops
pub mod Made
pub mod Requests
