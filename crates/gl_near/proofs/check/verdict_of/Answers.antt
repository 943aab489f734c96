use Rattle.std.proofs.Common.{refl, subst, sym, List, map}
use Rattle.gl_near.specs.declared.found.NearClosed.{NearClosed}
use Rattle.gl_near.specs.Certificate.{box_of}
use Rattle.gl_near.specs.Pairs.{pairing_of}
use Rattle.gl_near.specs.Verdict.{AreSaid, IsVerdict}
use Rattle.gl_near.proofs.Said.{said_verdict}
use Rattle.gl_near.proofs.check.verdict_of.Goals as goal

pub returns-in-Some : goal.returns-in-Some
returns-in-Some c = c.in-Some.ensures.fault (map box_of c.args.claim.now.closed.items)

pub returns : goal.returns
returns c =
    let claim = c.args.claim.now in
    let pairing = pairing_of c.args.pairs.now in
    let said = subst (λ (cells : List NearClosed). AreSaid pairing claim.best (map box_of cells) c.in_ok-said_of.field-0) c.deref.ensures.value c.in_ok-said_of.ensures in
    subst (IsVerdict pairing claim.best (map box_of claim.closed.items)) (sym c.from.ensures)
    (said_verdict pairing claim.best (map box_of claim.closed.items) c.in_ok-said_of.field-0 (c.in_default.ensures.none refl) said)
