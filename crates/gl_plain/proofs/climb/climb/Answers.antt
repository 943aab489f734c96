use Rattle.std.proofs.Common.{sym, subst, List, arith}
use Rattle.gl_goal.specs.declared.leg.Leg.{Leg}
use Rattle.gl_goal.specs.Best.{IsSound}
use Rattle.gl_plain.proofs.climb.climb.Goals as goal
use Rattle.gl_plain.proofs.climb.climb.Goals.{then-free-free_axes+in_ok-climb_over, else-free-free_axes, then-eq, else-eq}

pub loop-turn-preserved : goal.loop-turn-preserved
loop-turn-preserved g c =
    let rule = g.G.Goal.rule c.args.goal.now in
    record {
      sound = elim c.if-free-free_axes.branch [
        | then-free-free_axes+in_ok-climb_over w ↦ subst (IsSound rule) (sym w.best-is) w.climb_over.ensures.sound
        | else-free-free_axes w ↦ subst (IsSound rule) (sym w.best-is) c.loop-turn.invariant.sound
      ];
      legs = elim c.if-free-free_axes.branch [
        | then-free-free_axes+in_ok-climb_over w ↦ subst (λ (legs : List Leg). g.G.Goal.are_legs c.args.goal.now legs) (sym w.legs-is) w.climb_over.ensures.legs
        | else-free-free_axes w ↦ subst (λ (legs : List Leg). g.G.Goal.are_legs c.args.goal.now legs) (sym w.legs-is) c.loop-turn.invariant.legs
      ];
      idle = elim c.if-eq.branch [
        | then-eq w ↦ omega (arith, w.idle-is, c.loop-turn.invariant.idle)
        | else-eq w ↦ omega (arith, w.idle-is)
      ];
    }
