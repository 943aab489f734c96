mod Courses
mod FreeSeen
mod Triangles
pub mod Closing
pub mod Existence
pub mod Fives
pub mod FreeHulls
pub mod FreeLosses
pub mod Listed
pub mod Optimum
pub mod Order
pub mod Reaches
pub mod Seen
pub mod Totals
pub mod Tuples
pub mod Attained
pub mod Ends
pub mod Entries
pub mod Gaps
pub mod Kept
pub mod LeastBoxes
pub mod Nearest
