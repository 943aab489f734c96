use Rattle.std.proofs.Common.{◌≡◌, length}
use Rattle.gl_cup.specs.Choice.{from_task}
use Rattle.gl_cup.proofs.choice.from_task.Given as goal

-- the rest decides
abbrev pub invariant-rows : goal.invariant-rows
invariant-rows l = from_task l.n l.rows ≡ from_task l.left l.rest

abbrev pub decreases-rows : goal.decreases-rows
decreases-rows l = length l.rest
