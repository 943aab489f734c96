use Rattle.std.proofs.Common.{◌∙◌, refl, ap, ◌^◌, ◌++◌, arith, List, ℕ}
use Rattle.std.specs.Char.{is_ascii_digit}
use Rattle.gl_proof.proofs.Codes.{cut_front, number_front}
use Rattle.gl_proof.proofs.front.number_at.Goals as goal

pub returns-in_err-number : goal.returns-in_err-number
returns-in_err-number c = rw c.from_residual.ensures (λ n rest at.
    let text = c.args.text.now in
    let front = c.split_at.result.0.now in
    let back = c.split_at.result.1.now in
    let cut = cut_front is_ascii_digit text front back c.count_digits.result c.count_digits.ensures.value c.split_at.ensures.front c.split_at.ensures.back in
    c.in_err-number.ensures.none.0 refl n at.below (number_front (2 ^ 64) n text front back rest (omega arith) cut.0 cut.1 cut.2 at).0)

pub returns : goal.returns
returns c =
    let text = c.args.text.now in
    let front = c.split_at.result.0.now in
    let back = c.split_at.result.1.now in
    let cut = cut_front is_ascii_digit text front back c.count_digits.result c.count_digits.ensures.value c.split_at.ensures.front c.split_at.ensures.back in
    record {
      below = c.in_ok-number.ensures.some.0;
      is = cut.2 ∙ ap (λ (l : List ℕ). l ++ back) c.in_ok-number.ensures.some.1;
      stops = cut.1;
    }
