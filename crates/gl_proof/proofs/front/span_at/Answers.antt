use Rattle.std.proofs.Common.{◌++◌, arith}
use Rattle.std.specs.Fmt.{decimal}
use Rattle.gl_proof.proofs.Codes.{high_at, low_front, span_front}
use Rattle.gl_proof.proofs.front.span_at.Goals as goal

pub returns-in_err-behind : goal.returns-in_err-behind
returns-in_err-behind c = rw c.from_residual-in_err-behind.ensures (λ span more at.
    c.in_err-behind.ensures (decimal span.1 ++ more) (low_front c.args.text.now c.in_ok-lo.lo c.in_ok-lo.rest.now span more c.in_ok-lo.ensures at).1)

pub returns-in_err-hi : goal.returns-in_err-hi
returns-in_err-hi c = rw c.from_residual-in_err-hi.ensures (λ span more at.
    c.in_err-hi.ensures span.1 more (high_at c.args.text.now c.in_ok-behind.field-0.now c.in_ok-lo.lo c.in_ok-lo.rest.now span more c.in_ok-lo.ensures c.in_ok-behind.ensures at))

pub returns-then-lo-hi : goal.returns-then-lo-hi
returns-then-lo-hi c = λ span more at.
    let same = span_front c.args.text.now c.in_ok-behind.field-0.now c.in_ok-lo.lo c.in_ok-lo.rest.now c.in_ok-hi.hi c.in_ok-hi.rest.now span more c.in_ok-lo.ensures c.in_ok-behind.ensures
    c.in_ok-hi.ensures at in
    absurd (omega (arith, same.0, same.1, at.is_span.0, c.if-lo-hi.true))
