-- Lemmas and no definitions: that the components of a written vector stay within the radius, which
-- `written_vector` rests on.
pub mod Bounds
pub mod Components
pub mod Quotients
pub mod Series
pub mod Signs
