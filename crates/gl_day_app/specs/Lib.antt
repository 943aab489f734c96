pub mod DayRun
pub mod Endings
