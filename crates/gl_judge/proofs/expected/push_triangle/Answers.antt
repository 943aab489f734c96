use Rattle.std.proofs.Common.{◌≡◌}
use Rattle.std.proofs.lemmas.Result.{on_ok_weaker}
use Rattle.gl_goal.specs.AnyGoal.{any_rule}
use Rattle.gl_goal.specs.declared.any.AnyGoal.TheVariants as any
use Rattle.gl_proof.specs.declared.claim.ClaimKind.TheVariants as kind
use Rattle.gl_judge.specs.Claims.{triangle_claims}
use Rattle.gl_judge.proofs.Listings.{none_appended, one_appended, triangle_listed, triangle_unlisted}
use Rattle.gl_judge.proofs.expected.push_triangle.Goals as goal

pub returns-in_default : goal.returns-in_default
returns-in_default c =
    none_appended c.args.claims.now.items (λ claims. claims ≡ triangle_claims c.args.task.now c.args.rec.now.fixes c.args.judged) (triangle_unlisted c.args.task.now c.args.rec.now.fixes c.args.judged c.in_default.ensures)

pub returns : goal.returns
returns c =
    let listed = c.in-Some.ensures in
    on_ok_weaker c.push_claim.result (λ is. one_appended c.args.claims.now.items c.push_claim.new.claims.items (kind.Triangle, any.Triangle c.in_ok-goal.goal)
    (λ claims. claims ≡ triangle_claims c.args.task.now c.args.rec.now.fixes c.args.judged) is
    (triangle_listed c.args.task.now c.args.rec.now.fixes c.as_slice.result.now c.args.judged c.in-Some.first c.in-Some.last (any_rule (any.Triangle c.in_ok-goal.goal)) c.as_slice.ensures listed.0 listed.1
    c.in_ok-goal.ensures.rule listed.4)
    tt)
    c.push_claim.ensures
