pub mod Data
pub mod Nodes
pub mod Waiting
pub mod Graph
