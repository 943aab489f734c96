use Rattle.std.proofs.Common.{◌≡◌, ◌<◌, Bool, true, false, cond, List, [], ◌∷◌, ◌++◌, ℕ, ℤ, pos, subst, sym, ap, ◌∙◌, arith, to_z, of_z, w32}
use Rattle.std.specs.Prelude.{◌≤ℤ◌, ◌<ℤ◌, is_ok}
use Rattle.std.proofs.lemmas.Int.{ints, to_z_pos}
use Rattle.gl_igc.specs.Code.Seconds.{AreBelow}
use Rattle.gl_igc.proofs.SecondsLemmas.{each-push}
use Rattle.gl_igc.proofs.event_steps.take_event.Goals as goal

after : (pushed : Bool) (seconds : List ℤ) (second : ℤ) (own : ℕ) → AreBelow 500_000 seconds → second ≡ pos own → own < 500_000 → AreBelow 500_000 (cond pushed (seconds ++ second ∷ []) seconds)
after true seconds second own below is small =
    each-push (λ (second : ℤ). (pos 0 ≤ℤ second) × (second <ℤ pos 500_000)) seconds second below
    (subst (λ (s : ℤ). (pos 0 ≤ℤ s) × (s <ℤ pos 500_000)) (sym is) (grind (arith, ints), grind (arith, ints)))
after false seconds second own below is small = below

pub invariant_of-events : goal.invariant_of-events
invariant_of-events c = record {
  below = subst (AreBelow 500_000) (sym c.push.ensures.items)
      (after (is_ok c.push.result) c.args.events.now.seconds.items (to_z w32 (of_z w32 c.signed.result)) c.own_second-own.result c.args.events.now.below
      (ap (λ (z : ℤ). to_z w32 (of_z w32 z)) c.signed.ensures ∙ to_z_pos w32 c.own_second-own.result (omega arith)) (omega arith));
}
