use Rattle.std.proofs.Common.{arith}
use Rattle.std.proofs.lemmas.Bool.Decides.{nat_tests}
use Rattle.gl_triangle.proofs.Cells.{possible}
use Rattle.gl_triangle.proofs.Rounds.{length-fixes_of}
use Rattle.gl_triangle.proofs.node.is_possible.Goals as goal
use Rattle.gl_triangle.proofs.node.is_possible.Goals.{then-spans, else-spans}
use Rattle.std.proofs.lemmas.Bool.{OnFalse_from}

pub closes-requires : goal.closes-requires
closes-requires c = omega (arith, length-fixes_of c.args.goal.now, c.requires.within.first, c.least_high.ensures)

pub returns-then-max-spans : goal.returns-then-max-spans
returns-then-max-spans c =
    OnFalse_from c.closes.result _ (λ past tuple counts held.
    let ends = possible c.args.goal.now c.args.order.now c.args.spans.now c.args.numbers.now tuple c.requires.numbers counts held in
    absurd (cc (ends.closing, c.closes.ensures, c.least_high.ensures, c.greatest_low.ensures)))

pub returns-else-max-spans : goal.returns-else-max-spans
returns-else-max-spans c =
    OnFalse_from c.if-spans.value _ (λ past tuple counts held.
    let ends = possible c.args.goal.now c.args.order.now c.args.spans.now c.args.numbers.now tuple c.requires.numbers counts held in
    absurd (elim c.if-spans.branch [ then-spans w ↦ grind (arith, nat_tests) | else-spans w ↦ grind (arith, nat_tests) ]))
