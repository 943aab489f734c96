use Rattle.std.proofs.Common.{◌≡◌, ◌-◌, [], ◌∷◌, replicate}
use Rattle.gl_goal.specs.Goal.{whole_cell}
use Rattle.gl_replay.specs.Machine.{idle}
use Rattle.gl_replay.specs.Code.Workers.{workers_of}
use Rattle.gl_replay.proofs.machine.Machine.new.Given as goal

-- so many workers so far
abbrev pub invariant-loop-number : goal.invariant-loop-number
invariant-loop-number g l =
    workers_of l.list.items
    ≡ record idle { deque = whole_cell (g.G.Goal.rule l.goal).axes ∷ [] } ∷ replicate (l.number - 1) idle
