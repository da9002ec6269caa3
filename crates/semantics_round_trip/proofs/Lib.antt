pub mod Words
pub mod Numbers
pub mod Texts
pub mod Records
pub mod Said
pub mod Parsed
pub mod Cuts
