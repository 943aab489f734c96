pub mod Flat
pub mod Partings
