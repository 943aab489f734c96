pub mod PlaceLemmas
pub mod RangeLemmas
pub mod ReachLemmas
pub mod ChoiceLemmas
pub mod SearchLemmas
pub mod SiftLemmas
pub mod WayLemmas
pub mod HalfLemmas
