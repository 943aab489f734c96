pub mod Products
pub mod Ways
