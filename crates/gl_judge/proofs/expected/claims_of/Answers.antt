use Rattle.gl_judge.specs.Code.Claims.{AreClaims}
use Rattle.gl_judge.proofs.Listings.{all_have_legal, all_hold}
use Rattle.gl_judge.proofs.expected.claims_of.Goals as goal

pub returns-clause-expected : goal.returns-clause-expected
returns-clause-expected c =
    all_hold c.new-claims.result.items c.push_claims.new.claims.items (AreClaims c.args.task.now c.args.rec.now.fixes c.args.judged c.args.outcome) c.new-claims.ensures.items
    c.in_ok-push_claims.ensures

pub returns-clause-legal : goal.returns-clause-legal
returns-clause-legal c =
    all_have_legal c.new-claims.result.items c.push_claims.new.claims.items (AreClaims c.args.task.now c.args.rec.now.fixes c.args.judged c.args.outcome) c.new-claims.ensures.items
    c.in_ok-push_claims.ensures
