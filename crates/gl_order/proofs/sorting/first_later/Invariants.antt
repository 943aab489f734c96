use Rattle.gl_order.specs.Code.Ends.{EachBetween, EndsBy}
use Rattle.gl_order.proofs.sorting.first_later.Given as goal

-- none of the boxes so far ends later
abbrev pub invariant-loop-place : goal.invariant-loop-place
invariant-loop-place g l = EachBetween (λ box. EndsBy l.axis l.last (g.B.Boxed.spans box)) l.boxes l.start l.place
