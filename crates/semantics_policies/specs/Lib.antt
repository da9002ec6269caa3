pub mod Policies
pub mod Conditions
pub mod Grammar
pub mod Identifiers
pub mod Laws
pub mod Linking
