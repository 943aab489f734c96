pub mod Balance
pub mod Workers
pub mod Seats
pub mod Steps
pub mod Turns
