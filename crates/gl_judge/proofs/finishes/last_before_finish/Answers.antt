use Rattle.std.proofs.Common.{◌∙◌, sym, subst, ℕ, ℤ, ◌-◌, ◌≤◌, arith, inl, inr, []}
use Rattle.std.proofs.lemmas.Bool.{cases_lt}
use Rattle.gl_judge.specs.Finishes.{IsAtFinish}
use Rattle.gl_judge.specs.Greatest.{IsGreatest}
use Rattle.gl_judge.specs.Visits.{CanFinish}
use Rattle.gl_judge.proofs.Bounds.{some_is}
use Rattle.gl_judge.proofs.Readiness.{ready-last}
use Rattle.gl_judge.proofs.finishes.last_before_finish.Goals as goal

pub returns-then-is_some-clause-last : goal.returns-then-is_some-clause-last
returns-then-is_some-clause-last c =
    let f : ℕ = c.loop-f.f - 1 in
    let at = some_is c.finish_at.result _ (sym c.is_some.ensures ∙ c.if-is_some.true) c.finish_at.ensures.some in
    let last : (g : ℕ) (time : ℤ) → IsAtFinish c.args.finish.now c.args.rec.now.fixes c.args.judged g time → g ≤ c.loop-f.f - 1 =
    λ g time h. elim (cases_lt (c.loop-f.f - 1) g) as (λ _. g ≤ c.loop-f.f - 1)
    [ inl lt ↦ absurd (c.loop-f.invariant g time (omega arith) h) | inr le ↦ le ] in
    subst (λ (n : ℕ). IsGreatest (CanFinish c.args.finish.now c.args.rec.now.fixes c.args.judged []) (c.loop-f.f - 1 - n)) (sym c.lead.ensures)
    (ready-last c.args.finish.now c.args.rec.now.fixes c.args.judged (c.loop-f.f - 1) at.0 at.1 last)
