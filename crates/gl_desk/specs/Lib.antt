pub mod Answers
pub mod Code
pub mod Desk
pub mod HostDesk
pub mod Limits
pub mod MemDesk
pub mod Pouring
