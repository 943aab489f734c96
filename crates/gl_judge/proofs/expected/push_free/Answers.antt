use Rattle.std.proofs.Common.{◌≡◌, ◌∷◌, [], FitsSigned, rules, w32}
use Rattle.std.proofs.lemmas.Int.{to_z-of_z}
use Rattle.std.proofs.lemmas.Result.{on_ok_weaker}
use Rattle.gl_goal.specs.AnyGoal.{any_rule}
use Rattle.gl_goal.specs.declared.any.AnyGoal.TheVariants as any
use Rattle.gl_proof.specs.declared.claim.ClaimKind.TheVariants as kind
use Rattle.gl_judge.specs.Claims.{free_claims}
use Rattle.gl_judge.proofs.Listings.{free_listed, free_unlisted, none_appended, one_appended}
use Rattle.gl_judge.proofs.expected.push_free.Goals as goal

pub returns-in_default : goal.returns-in_default
returns-in_default c =
    none_appended c.args.claims.now.items (λ claims. claims ≡ free_claims c.args.task.now c.args.rec.now.fixes c.args.judged) (free_unlisted c.args.task.now c.args.rec.now.fixes c.args.judged c.in_default.ensures)

pub returns : goal.returns
returns c =
    let listed = c.in-Some.ensures in
    let fits : FitsSigned w32 c.args.task.now.rules.loss = search rules in
    on_ok_weaker c.push_claim.result (λ is. one_appended c.args.claims.now.items c.push_claim.new.claims.items (kind.Free, any.Free c.in_ok-goal.goal)
    (λ claims. claims ≡ free_claims c.args.task.now c.args.rec.now.fixes c.args.judged) is
    (free_listed c.args.task.now c.args.rec.now.fixes c.as_slice.result.now c.args.judged c.in-Some.first c.in-Some.last _ (any_rule (any.Free c.in_ok-goal.goal)) c.as_slice.ensures listed.0 listed.1
    (to_z-of_z w32 c.args.task.now.rules.loss fits) c.in_ok-goal.ensures.rule listed.4)
    (0 ∷ 0 ∷ 0 ∷ 0 ∷ 0 ∷ [], c.in_ok-goal.ensures.legal))
    c.push_claim.ensures
