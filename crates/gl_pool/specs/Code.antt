-- Definitions of the code alone: what its loops keep, and views of its types. No promise to a
-- caller cites them.
pub mod Crew
pub mod Many
pub mod Settle
pub mod Taken
pub mod Tally
pub mod Trail
pub mod UnderWay
