pub mod LineLemmas
pub mod Pairs
pub mod Quarters
pub mod Runs
pub mod Utf8
pub mod ZoneLemmas
