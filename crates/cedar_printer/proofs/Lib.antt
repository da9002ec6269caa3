pub mod Methods
pub mod Rows
