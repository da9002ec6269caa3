mod Nodes
mod Binding
mod Pairs
