pub mod DayLemmas
pub mod DrawLemmas
pub mod LegLemmas
pub mod LineLemmas
pub mod RecordingLemmas
