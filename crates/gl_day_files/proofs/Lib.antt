pub mod DayDecided
pub mod DayRefusals
pub mod DayTests
pub mod OneDay
pub mod Readings
pub mod TaskSame
