use Rattle.std.proofs.Common.{Global, Vec, ℕ, ap, sym, ◌∙◌}
use Rattle.gl_judge.proofs.Numbers.{differ, zone-more, zone-same}
use Rattle.gl_judge.proofs.zone_lists.numbers_in_zone.Goals as goal
use Rattle.gl_judge.proofs.zone_lists.numbers_in_zone.Goals.{then-is_in_zone+in_ok-push, else-is_in_zone}

pub loop-i-preserved : goal.loop-i-preserved
loop-i-preserved c =
    elim c.if-is_in_zone.branch [
      | then-is_in_zone+in_ok-push w ↦
          ap (λ (v : Vec ℕ Global). v.items) w.numbers-is
          ∙ zone-more c.args.fixes.now c.args.zone.now _ _ _ _ c.loop-i.auto.i (c.is_in_zone.ensures.0 w.if-is_in_zone.true) w.in_ok-push.ensures.items c.loop-i.invariant
      | else-is_in_zone w ↦
          ap (λ (v : Vec ℕ Global). v.items) w.numbers-is
          ∙ zone-same c.args.fixes.now c.args.zone.now _ _ _ c.loop-i.auto.i (λ here. differ (sym w.if-is_in_zone.false ∙ c.is_in_zone.ensures.1 here)) c.loop-i.invariant
    ]
