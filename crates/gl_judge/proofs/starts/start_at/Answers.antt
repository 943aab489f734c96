use Rattle.std.proofs.Common.{◌≡◌, ◌∙◌, sym, subst, arith, rules, List, Option, IfNone, ℤ, w32, to_z, of_z}
use Rattle.std.proofs.lemmas.Bool.{false≢true}
use Rattle.std.proofs.lemmas.Int.{ints}
use Rattle.gl_judge.specs.Starts.{IsAnnounced, IsLegalStart}
use Rattle.gl_judge.proofs.Lines.{crosses-once}
use Rattle.gl_judge.proofs.starts.start_at.Goals as goal
use Rattle.gl_judge.proofs.starts.start_at.Goals.{then-time-start-via-then-time-start, then-time-start-via-else-time-start+then-start-time}

pub returns-in_err-time-clause-none : goal.returns-in_err-time-clause-none
returns-in_err-time-clause-none c =
    subst (λ (o : Option ℤ). IfNone o ((time : ℤ) → IsLegalStart c.args.start.now c.args.rec.now c.args.judged c.args.b time → ⊥)) (sym c.from_residual.ensures)
    (λ time h. c.in_err-time.ensures.none time h.crossed)

pub returns-then-time-start-clause-none : goal.returns-then-time-start-clause-none
returns-then-time-start-clause-none c = λ time h.
    let same : time ≡ c.in_ok-time.time = crosses-once c.args.start.now.line c.args.rec.now.fixes c.args.judged c.args.b time c.in_ok-time.time h.crossed c.in_ok-time.ensures.some in
    elim c.then-time-start.branch as (λ _. ⊥) [
      | then-time-start-via-then-time-start w ↦ absurd (omega (arith, ints, h.opened, w.if-time-start.true))
      | then-time-start-via-else-time-start+then-start-time w ↦ absurd (omega (arith, ints, h.not_closed, w.if-start-time.true))
    ]

pub returns-then-is_announced-clause-some : goal.returns-then-is_announced-clause-some
returns-then-is_announced-clause-some c =
    record {
      crossed = search rules;
      opened = grind (arith, ints);
      not_closed = grind (arith, ints);
      announced = subst (λ (events : List ℤ). IsAnnounced c.args.start.now.pilot events (to_z w32 (of_z w32 c.in_ok-time.time))) c.as_slice.ensures (c.is_announced.ensures.0 c.if-is_announced.true);
    }

pub returns-else-is_announced-clause-none : goal.returns-else-is_announced-clause-none
returns-else-is_announced-clause-none c = λ time h.
    let same : time ≡ c.in_ok-time.time = crosses-once c.args.start.now.line c.args.rec.now.fixes c.args.judged c.args.b time c.in_ok-time.time h.crossed c.in_ok-time.ensures.some in
    let whole : to_z w32 (of_z w32 c.in_ok-time.time) ≡ c.in_ok-time.time = search rules in
    let here : IsAnnounced c.args.start.now.pilot c.args.rec.now.events (to_z w32 (of_z w32 c.in_ok-time.time)) =
    subst (λ (t : ℤ). IsAnnounced c.args.start.now.pilot c.args.rec.now.events t) (same ∙ sym whole) h.announced in
    false≢true (sym c.if-is_announced.false ∙ c.is_announced.ensures.1 (subst (λ (events : List ℤ). IsAnnounced c.args.start.now.pilot events (to_z w32 (of_z w32 c.in_ok-time.time)))
    (sym c.as_slice.ensures) here))
