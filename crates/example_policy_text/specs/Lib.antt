pub mod TreeDepth
