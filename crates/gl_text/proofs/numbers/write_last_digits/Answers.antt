use Rattle.std.proofs.Common.{ℕ, ◌/◌, ap, ◌∙◌, add-one, arith, length-set}
use Rattle.gl_text.proofs.NumberLemmas.{put_last_digit, div_more}
use Rattle.gl_text.proofs.numbers.write_last_digits.Goals as goal

pub loop-written-preserved : goal.loop-written-preserved
loop-written-preserved c =
    let l = c.loop-written in
    let k = l.written in
    record {
      rest = ap (λ (r : ℕ). r / 10) l.invariant.rest ∙ div_more c.args.n k;
      digits = rw (add-one, length-set, l.invariant.rest) (put_last_digit k c.args.n l.buffer (omega arith) l.invariant.digits);
    }
