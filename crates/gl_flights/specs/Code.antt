-- Definitions of the code alone: what its functions share. No promise to a caller cites them.
pub mod NearFiles
