pub mod Chords
pub mod Edges
pub mod Gathers
pub mod Goings
pub mod Kept
pub mod SameAirspace
