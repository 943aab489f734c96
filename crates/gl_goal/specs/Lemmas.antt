-- Lemmas and no definitions: that the goals that are written here meet the laws of a goal, which
-- the ghost members `laws` rest on, and what these need of hulls.
pub mod AnyGoal
pub mod Area
pub mod Boxes
pub mod Chain
pub mod ChordBounds
pub mod Closing
pub mod Fair
pub mod Free
pub mod Held
pub mod Out
pub mod Points
pub mod Spans
pub mod Triangle
