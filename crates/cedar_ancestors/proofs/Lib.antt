pub mod Marking
pub mod Closing
pub mod Keys
pub mod Rows
pub mod Covering
pub mod Falling
pub mod Storing
