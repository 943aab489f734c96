pub mod Code
pub mod Day
pub mod Draws
pub mod Leg
pub mod Line
pub mod Place
pub mod Recording
pub mod Task
