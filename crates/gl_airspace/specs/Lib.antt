pub mod Bounds
pub mod Code
pub mod Inside
pub mod Line
pub mod Volumes
pub mod Draft
pub mod Parts
pub mod Airspace
