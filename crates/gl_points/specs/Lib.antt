pub mod Code
pub mod Figures
pub mod Fraction
pub mod Laws
pub mod Limits
pub mod Points
pub mod Summary
pub mod Worth
