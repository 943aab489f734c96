pub mod Code
pub mod Order
pub mod Runs
