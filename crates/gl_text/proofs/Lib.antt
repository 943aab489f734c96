pub mod Characters
pub mod DigitLemmas
pub mod Forms
pub mod LineLemmas
pub mod Lists
pub mod NumberLemmas
pub mod Spaces
