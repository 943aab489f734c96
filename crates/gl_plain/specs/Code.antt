-- Definitions of the code alone: what its loops keep. No promise to a caller cites them.
pub mod Steps
