pub mod BareValue
pub mod ValueOrder
pub mod WellFormed
pub mod AscendingKeys
pub mod ValueTypes
pub mod ValueExpr
pub mod Reading
pub mod Laws
