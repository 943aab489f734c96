pub mod Answered
pub mod ClosingLemmas
pub mod CrossingLemmas
pub mod KeyLemmas
pub mod Listing
pub mod TextLemmas
pub mod ToldLemmas
