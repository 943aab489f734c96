use Rattle.std.proofs.Common.{◌≡◌, ◌++◌, map, replicate, None}
use Rattle.gl_box.proofs.steps.come_to.Given as goal

-- so many cuts were added
abbrev pub invariant-loop : goal.invariant-loop
invariant-loop g l =
    map g.T.Turn.reason l.turns.items ≡ map g.T.Turn.reason l.fn.turns.items ++ replicate l.counter None
