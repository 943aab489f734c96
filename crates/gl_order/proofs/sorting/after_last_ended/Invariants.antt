use Rattle.gl_order.specs.Code.Ends.{EachBetween, EndsBy}
use Rattle.gl_order.proofs.sorting.after_last_ended.Given as goal

-- the boxes so far end later
abbrev pub invariant-loop-place : goal.invariant-loop-place
invariant-loop-place g l = EachBetween (λ box. EndsBy l.axis l.last (g.B.Boxed.spans box) → ⊥) l.boxes l.place l.end
