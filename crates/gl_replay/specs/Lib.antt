pub mod Code
pub mod Machine
pub mod Replayed
pub mod Safe
pub mod Schedule
