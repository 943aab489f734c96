-- Lemmas and no definitions: that the gain of height meets the laws of a goal, which the ghost
-- member `laws` rests on.
pub mod Gain
