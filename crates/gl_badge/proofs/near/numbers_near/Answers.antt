use Rattle.std.proofs.Common.{Global, Vec, ℕ, ap, sym, refl, ◌∙◌, length, arith}
use Rattle.std.proofs.lemmas.Option.{slice_get_read}
use Rattle.gl_badge.proofs.Nearby.{near-more, near-same}
use Rattle.gl_badge.proofs.near.numbers_near.Goals as goal
use Rattle.gl_badge.proofs.near.numbers_near.Goals.{then-is_near+in_ok-push, else-is_near}

pub loop-number-preserved : goal.loop-number-preserved
loop-number-preserved c =
    let at = slice_get_read c.args.fixes.now (length c.args.fixes.now) c.loop-number.number c.index-fixes-number.result refl (omega (arith, c.loop-number-test.true)) c.index-fixes-number.is in
    elim c.if-is_near.branch [
      | then-is_near+in_ok-push w ↦
          ap (λ (v : Vec ℕ Global). v.items) w.numbers-is
          ∙ near-more c.args.fixes.now c.args.point _ c.index-fixes-number.result _ _ at (sym c.is_near.ensures ∙ w.if-is_near.true) w.in_ok-push.ensures.items c.loop-number.invariant
      | else-is_near w ↦
          ap (λ (v : Vec ℕ Global). v.items) w.numbers-is
          ∙ near-same c.args.fixes.now c.args.point _ c.index-fixes-number.result _ at (sym c.is_near.ensures ∙ w.if-is_near.false) c.loop-number.invariant
    ]
