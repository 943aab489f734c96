pub mod BelowLarge
pub mod Fixes
pub mod Wrong
