pub mod Ended
pub mod DayRights
pub mod Stewards
