pub mod Limits
pub mod Numbers
pub mod Ranges
pub mod SamePoint
pub mod Ceiling
pub mod EngineNoise
pub mod Laws
pub mod Penalty
