use Rattle.std.proofs.Common.{refl, sym, subst}
use Rattle.gl_near.specs.Pairs.{pairing_of}
use Rattle.gl_near.specs.Verdict.{IsVerdict}
use Rattle.gl_near.proofs.LineChecks.{verdict_text}
use Rattle.gl_near.proofs.Said.{said_verdict}
use Rattle.gl_near.proofs.line_check.NearCheck.verdict.Goals as goal

pub returns-in-Some : goal.returns-in-Some
returns-in-Some c = λ pairing lines text has whole. verdict_text pairing lines text c.args.self.now c.in-Some.verdict has whole (λ boxes taken. c.in-Some.ensures.fault boxes)

pub returns : goal.returns
returns c = λ pairing lines text has whole.
    let check = c.args.self.now.boxes in
    verdict_text pairing lines text c.args.self.now c.from.result has whole (λ boxes taken.
    subst (IsVerdict (pairing_of check.test.pairs.now) check.test.best boxes) (sym c.from.ensures)
    (said_verdict (pairing_of check.test.pairs.now) check.test.best boxes c.said.result (c.in_default.ensures.none refl) (c.said.ensures boxes taken)))
