pub mod UnknownNames
