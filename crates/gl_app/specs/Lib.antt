pub mod Run
pub mod Badge
pub mod Code
pub mod Demo
