use Rattle.std.proofs.lemmas.Result.{IfOk-weaker}
use Rattle.std.proofs.Common.{map}
use Rattle.gl_box.specs.InLists.{boxes_in}
use Rattle.gl_box.proofs.Parts.{mult-held}
use Rattle.gl_goal.specs.Goal.{whole_cell}
use Rattle.gl_goal.proofs.Optimum.{certificate_optimum}
use Rattle.gl_check.proofs.Exact.{verdict_unique}
use Rattle.gl_check.proofs.Judged.{yes_exactly}
use Rattle.gl_check.proofs.check.check_claim.Goals as goal

pub returns-clause-only : goal.returns-clause-only
returns-clause-only g c =
    let claim = c.args.claim.now in
    IfOk-weaker c.verdict_of.result _ _ (λ verdict said other is. verdict_unique (g.G.Goal.rule c.args.goal.now) claim.total claim.fixes.items
    (boxes_in claim.cells) other verdict is said) c.verdict_of.ensures

pub returns-clause-yes : goal.returns-clause-yes
returns-clause-yes g c =
    let claim = c.args.claim.now in
    IfOk-weaker c.verdict_of.result _ _ (λ verdict said. yes_exactly (g.G.Goal.rule c.args.goal.now) claim.total claim.fixes.items (boxes_in claim.cells) verdict said)
    c.verdict_of.ensures

pub returns-clause-optimum : goal.returns-clause-optimum
returns-clause-optimum g c =
    let claim = c.args.claim.now in
    let rule = g.G.Goal.rule c.args.goal.now in
    IfOk-weaker c.verdict_of.result _ _ (λ verdict said yes. certificate_optimum rule claim.total claim.fixes.items (boxes_in claim.cells) (g.met.G.Goal.laws c.args.goal.now)
    ((yes_exactly rule claim.total claim.fixes.items (boxes_in claim.cells) verdict said).0 yes)) c.verdict_of.ensures

pub returns-clause-once : goal.returns-clause-once
returns-clause-once g c =
    let claim = c.args.claim.now in
    let rule = g.G.Goal.rule c.args.goal.now in
    let boxes = boxes_in claim.cells in
    IfOk-weaker c.verdict_of.result _ _ (λ verdict said yes tuple held. mult-held (whole_cell rule.axes) (map (λ box. box.0) boxes) tuple
    ((yes_exactly rule claim.total claim.fixes.items boxes verdict said).0 yes).frontier held) c.verdict_of.ensures
