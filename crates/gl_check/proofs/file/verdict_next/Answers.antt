use Rattle.std.proofs.Common.{◌≡◌, ◌∙◌, refl, sym, subst, ℕ, [], Option}
use Rattle.gl_check.specs.Verdict.{AreSaid, IsVerdict}
use Rattle.gl_check.proofs.Said.{said_verdict}
use Rattle.gl_check.proofs.file.verdict_next.Goals as goal

pub returns-in-Some-clause-said : goal.returns-in-Some-clause-said
returns-in-Some-clause-said g c = λ used gave.
    let taken = c.in_ok-ahead.ensures.taken used [] gave c.in_ok-check.ensures.begins in
    (taken.0, c.in-Some.ensures.fault taken.0, taken.2)

pub returns-clause-said : goal.returns-clause-said
returns-clause-said g c = λ used gave.
    let rule = g.G.Goal.rule in
    let taken = c.in_ok-ahead.ensures.taken used [] gave c.in_ok-check.ensures.begins in
    let boxes = taken.0 in
    let test = c.take_boxes.new.check.test in
    let same_goal : test.goal.now ≡ c.args.goal.now = c.in_ok-ahead.ensures.same.0 ∙ c.in_ok-check.ensures.test.0 in
    let same_total : test.total ≡ c.args.total = c.in_ok-ahead.ensures.same.1 ∙ c.in_ok-check.ensures.test.1 in
    let said = subst (λ x. AreSaid (rule x) c.args.total boxes c.said.result) same_goal
    (subst (λ (total : Option ℕ). AreSaid (rule test.goal.now) total boxes c.said.result) same_total (c.said.ensures boxes taken.1)) in (
      boxes,
      subst (IsVerdict (rule c.args.goal.now) c.args.total c.args.fixes.now boxes) (sym c.from.ensures)
          (said_verdict (rule c.args.goal.now) c.args.total c.args.fixes.now boxes c.said.result (c.in_default.ensures.none refl) said),
      taken.2,
    )
