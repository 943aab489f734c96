pub mod Code
pub mod Trail
pub mod Taken
pub mod Parts
pub mod Kept
pub mod Work
