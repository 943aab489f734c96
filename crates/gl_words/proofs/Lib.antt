pub mod CommandNames
pub mod DayNumbers
pub mod Unbroken
pub mod DayCommandNames
pub mod UnbrokenNames
pub mod WorkerCounts
