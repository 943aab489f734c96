-- Definitions of the code alone: what its loops keep, and views of its types. No promise to a
-- caller
-- cites them.
pub mod Arms
pub mod Candidates
pub mod Choices
pub mod Ends
pub mod Farthest
pub mod Halves
pub mod Places
pub mod Ranges
pub mod Reach
pub mod Search
pub mod Ways
