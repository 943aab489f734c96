pub mod Answer
pub mod CellVerdict
pub mod Code
pub mod Found
pub mod Parts
pub mod Search
