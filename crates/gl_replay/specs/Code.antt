-- Definitions of the code alone: views of its types, and what workers leave. No promise to a caller
-- cites them.
pub mod Parts
pub mod Workers
-- Definitions of the code alone: what its loops keep, and views of its types. No promise to a
-- caller cites them.
pub mod Schedule
