use Rattle.std.specs.Prelude.{map}
use Rattle.gl_near.specs.Pairs.{pairing_of}
use Rattle.gl_near.specs.Code.Search.{IsUnderWay}
use Rattle.gl_near.specs.Search.{near_reason_of}
use Rattle.gl_near.proofs.search.run.Given as goal
use Rattle.gl_box.proofs.Work.{work_of}

abbrev pub invariant-loop-best : goal.invariant-loop-best
invariant-loop-best l = IsUnderWay (pairing_of l.pairs) l.best l.cells.items (map near_reason_of l.turns.items)

-- the work that the open cells can still make
abbrev pub decreases-loop-best : goal.decreases-loop-best
decreases-loop-best l = work_of l.cells.items
