use Rattle.std.proofs.lemmas.Result.{on_ok_weaker}
use Rattle.gl_judge.proofs.Listings.{claims_appended}
use Rattle.gl_judge.proofs.expected.push_claims.Goals as goal

pub returns : goal.returns
returns c =
    on_ok_weaker c.push_triangle.result
    (claims_appended c.args.task.now c.args.rec.now.fixes c.args.judged c.args.outcome c.args.claims.now.items c.push_chosen.new.claims.items c.push_free.new.claims.items
    c.push_triangle.new.claims.items c.in_ok-push_chosen.ensures c.in_ok-push_free.ensures)
    c.push_triangle.ensures
