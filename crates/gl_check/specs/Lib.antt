pub mod Checked
pub mod Verdict
pub mod Testing
pub mod File
