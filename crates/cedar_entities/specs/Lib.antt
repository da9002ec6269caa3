pub mod Parts
pub mod Listings
pub mod Errors
pub mod Stores
pub mod Laws
