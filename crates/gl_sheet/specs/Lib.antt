pub mod Code
pub mod Columns
pub mod Laws
pub mod Sheet
