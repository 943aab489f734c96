-- Definitions of the code alone: what its functions hand to one another. No promise to a caller
-- cites them.
pub mod Readings
pub mod Remarks
pub mod Run
pub mod Tables
