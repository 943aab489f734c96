pub mod Code
pub mod Digits
pub mod Forms
pub mod Lines
pub mod Numbers
pub mod Spaces
