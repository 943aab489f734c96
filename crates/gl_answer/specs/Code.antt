-- Definitions of the code alone: views of its types, and what it reads in pieces. No promise to a
-- caller cites them.
pub mod Lines
pub mod Pouring
