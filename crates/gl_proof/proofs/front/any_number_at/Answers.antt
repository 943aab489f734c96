use Rattle.std.proofs.Common.{arith}
use Rattle.gl_proof.proofs.Codes.{number_same}
use Rattle.gl_proof.proofs.front.any_number_at.Goals as goal

pub returns-then-number-from : goal.returns-then-number-from
returns-then-number-from c = λ n more at.
    let same = number_same c.in_ok-number.number n c.args.text.now c.in_ok-number.rest.now more c.in_ok-number.ensures at in
    absurd (omega (arith, same, at.below, c.if-number-from.true, c.from.ensures))
