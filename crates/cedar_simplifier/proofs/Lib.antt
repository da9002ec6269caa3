pub mod Nodes
pub mod ValueCalls
pub mod RecordNodes
pub mod Operands
pub mod Made
pub mod KnownChildren
pub mod Branches
pub mod OnePass
