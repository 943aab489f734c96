use Rattle.gl_goal.proofs.Listed.{IsWay}
use Rattle.gl_badge.proofs.text.legs.Given as goal

-- the others that were passed, from the first point on
abbrev pub invariant-loop-next : goal.invariant-loop-next
invariant-loop-next l = IsWay l.initial.end l.others l.next-index l.length l.end
