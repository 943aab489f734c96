pub mod Airspace
pub mod Recordings
pub mod Triangles
