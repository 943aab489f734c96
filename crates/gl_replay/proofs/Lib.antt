pub mod Apart
pub mod Gathered
pub mod Kept
pub mod Machines
pub mod Outcome
pub mod Replays
pub mod Turns
pub mod StepLines
