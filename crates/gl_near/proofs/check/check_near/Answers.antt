use Rattle.std.proofs.lemmas.Result.{IfOk-weaker}
use Rattle.std.proofs.Common.{map}
use Rattle.gl_near.specs.Certificate.{box_of}
use Rattle.gl_near.specs.Pairs.{pairing_of, pairs_are}
use Rattle.gl_near.proofs.Least.{certificate_least}
use Rattle.gl_near.proofs.Exact.{verdict_unique}
use Rattle.gl_near.proofs.Judged.{yes_exactly}
use Rattle.gl_near.proofs.check.check_near.Goals as goal

pub returns-clause-only : goal.returns-clause-only
returns-clause-only c =
    let claim = c.args.c.now in
    IfOk-weaker c.verdict_of.result _ _ (λ verdict said other is. verdict_unique (pairing_of c.args.p.now) claim.best (map box_of claim.closed.items) other verdict is said) c.verdict_of.ensures

pub returns-clause-yes : goal.returns-clause-yes
returns-clause-yes c =
    let claim = c.args.c.now in
    IfOk-weaker c.verdict_of.result _ _ (λ verdict said. yes_exactly (pairing_of c.args.p.now) claim.best (map box_of claim.closed.items) verdict said) c.verdict_of.ensures

pub returns-clause-least : goal.returns-clause-least
returns-clause-least c =
    let claim = c.args.c.now in
    let pairing = pairing_of c.args.p.now in
    IfOk-weaker c.verdict_of.result _ _ (λ verdict said yes. certificate_least pairing claim.best (map box_of claim.closed.items) (pairs_are c.args.p.now)
    ((yes_exactly pairing claim.best (map box_of claim.closed.items) verdict said).0 yes)) c.verdict_of.ensures
