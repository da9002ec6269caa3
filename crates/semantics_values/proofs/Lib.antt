pub mod Positions
pub mod ReadBack
pub mod Read
pub mod Plain
pub mod NoneInside
