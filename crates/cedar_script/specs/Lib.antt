pub mod CommandErrors
pub mod RunFaults
pub mod Words
pub mod Patterns
pub mod CommandWords
pub mod Stack
pub mod CommandEffects
