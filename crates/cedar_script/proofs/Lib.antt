pub mod Stacks
pub mod Pairs
pub mod Spelling
pub mod Reading
pub mod Bindings
