-- Definitions of the code alone: what its loops keep, and views of its types. No promise to a
-- caller cites them.
pub mod Fronts
pub mod Places
pub mod Reading
pub mod Search
