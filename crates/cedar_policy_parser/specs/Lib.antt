pub mod Seen
pub mod Streams
pub mod Scopes
pub mod Annotations
pub mod Complete
