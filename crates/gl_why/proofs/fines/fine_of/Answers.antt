use Rattle.std.proofs.Common.{◌≡◌, ◌≢◌, ◌∙◌, ap, refl, rules, subst, sym, ℕ, ◌+◌, List}
use Rattle.gl_day.specs.Flight.{owed_for}
use Rattle.gl_igc.specs.declared.fix.Fix.{Fix}
use Rattle.gl_judge.proofs.Bounds.{none_when}
use Rattle.gl_judge.specs.Greatest.{IsLeast}
use Rattle.gl_why.specs.Code.Fines.{OwesAt}
use Rattle.gl_why.specs.Fines.{OwesAll, owed_in_end, rules_of}
use Rattle.gl_why.proofs.WindowLemmas.{first_there, some_there}
use Rattle.gl_why.proofs.fines.fine_of.Goals as goal

pub returns-in_err-k-clause-none : goal.returns-in_err-k-clause-none
returns-in_err-k-clause-none c =
    let rules_now = c.args.task.now.rules in
    let which = c.args.rule in
    let points = c.points_of-points.result in
    let points_owed : ℕ = owed_in_end rules_now c.args.rec.now.fixes c.args.window which in
    let points_are : points ≡ points_owed = c.points_of-points.ensures ∙ ap (λ (l : List Fix). owed_for rules_now l (rules_of which)) c.window_fixes-fixes.ensures in
    none_when c.from_residual.result (points_owed ≡ 0)
    (absurd (some_there rules_now c.args.rec.now.fixes c.args.window which points c.requires points_are
    (subst (λ (l : List Fix). (k : ℕ) → OwesAt (rules_of which) rules_now l points k → ⊥) c.window_fixes-fixes.ensures c.in_err-k.ensures.none)))

pub returns-clause-some : goal.returns-clause-some
returns-clause-some c =
    let rules_now = c.args.task.now.rules in
    let which = c.args.rule in
    let points = c.points_of-points.result in
    let owes : points ≢ 0 = search rules in
    let points_are : points ≡ owed_in_end rules_now c.args.rec.now.fixes c.args.window which = c.points_of-points.ensures
    ∙ ap (λ (l : List Fix). owed_for rules_now l (rules_of which)) c.window_fixes-fixes.ensures in
    let first = subst (λ (l : List Fix). IsLeast (OwesAt (rules_of which) rules_now l points) c.in_ok-k.k) c.window_fixes-fixes.ensures c.in_ok-k.ensures.some in (
      owes,
      record {
        rule_is = refl;
        points_are = points_are;
        spot = c.spot_in-at.ensures.spot;
        first = subst (λ (n : ℕ). IsLeast (OwesAll rules_now c.args.rec.now.fixes c.args.window which) n) (sym c.spot_in-at.ensures.number_is)
            (first_there rules_now c.args.rec.now.fixes c.args.window which points c.in_ok-k.k c.requires points_are first);
      },
    )
