pub mod Lines
pub mod Corpora
pub mod Comparisons
