pub mod Choices
pub mod ClaimsSaid
pub mod Counted
pub mod Exact
pub mod FileEnds
pub mod FileLines
pub mod Judged
pub mod Said
