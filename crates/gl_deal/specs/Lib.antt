pub mod Code
pub mod Views
pub mod Rule
pub mod Tokens
pub mod Steals
pub mod Deal
