pub mod Charged
pub mod Owed
