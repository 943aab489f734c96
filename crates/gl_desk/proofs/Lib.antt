pub mod Outcomes
pub mod Pieces
pub mod Reading
pub mod StoredLemmas
pub mod GivenLemmas
pub mod DeskLemmas
pub mod SystemFiles
