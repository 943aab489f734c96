use Rattle.std.proofs.Common.{refl, subst, sym, ℕ, List}
use Rattle.gl_box.specs.InLists.{boxes_in}
use Rattle.gl_goal.specs.Certificate.{IsClaimed}
use Rattle.gl_check.specs.Verdict.{IsVerdict}
use Rattle.gl_check.proofs.Said.{said_verdict}
use Rattle.gl_check.proofs.check.verdict_of.Goals as goal

pub returns-in-Some : goal.returns-in-Some
returns-in-Some g c =
    let claim = c.args.claim.now in
    let rule = g.G.Goal.rule c.args.goal.now in
    let boxes = boxes_in claim.cells in
    subst (λ (fixes : List ℕ). IsVerdict rule claim.total fixes boxes c.in-Some.verdict) c.as_slice.ensures.value (c.in-Some.ensures.fault boxes)

pub returns : goal.returns
returns g c =
    let claim = c.args.claim.now in
    let rule = g.G.Goal.rule c.args.goal.now in
    let claimed = subst (IsClaimed rule claim.total) c.as_slice.ensures.value (c.in_default.ensures.none refl) in
    subst (IsVerdict rule claim.total claim.fixes.items (boxes_in claim.cells)) (sym c.from.ensures)
    (said_verdict rule claim.total claim.fixes.items (boxes_in claim.cells) c.in_ok-said_of.field-0 claimed c.in_ok-said_of.ensures)
