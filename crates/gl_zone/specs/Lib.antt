pub mod Crossing
pub mod Limits
pub mod Product
pub mod Side
pub mod Zones
