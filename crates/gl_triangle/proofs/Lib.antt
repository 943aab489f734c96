pub mod Cells
pub mod Fair
pub mod Nodes
pub mod Orders
pub mod Rounds
