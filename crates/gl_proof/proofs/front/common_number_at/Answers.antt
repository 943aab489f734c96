use Rattle.std.proofs.Common.{◌≡◌, ◌∙◌, sym, ap, ℕ, ◌+◌, ◌*◌, ◌<◌, List, ◌∷◌, ◌++◌, get_or, length, drop, arith}
use Rattle.std.proofs.lemmas.Fmt.{decimal_digit}
use Rattle.std.proofs.lemmas.List.{drop_more}
use Rattle.gl_proof.proofs.Codes.{digit-joins}
use Rattle.gl_proof.proofs.front.common_number_at.Goals as goal

pub digits-init : goal.digits-init
digits-init c =
    let text = c.args.text.now in
    let number = c.digit_of-number.result in
    let rest = drop 1 text in
    let some : 0 < length text = omega arith in
    let byte : get_or text 0 0 ≡ 48 + number = c.digit_of-number.ensures.digit (omega arith) in
    record {
      small = omega arith;
      is = drop_more text 0 0 some ∙ ap (λ (k : ℕ). k ∷ rest) byte ∙ ap (λ (l : List ℕ). l ++ rest) (sym (decimal_digit number (omega arith)));
    }

pub digits-preserved : goal.digits-preserved
digits-preserved c =
    let l = c.digits in
    let text = c.args.text.now in
    let digit = c.digit_of-digit.result in
    let after = drop (l.bytes + 1) text in
    let inside : l.bytes < length text = omega arith in
    let byte : get_or text l.bytes 0 ≡ 48 + digit = c.digit_of-digit.ensures.digit (omega arith) in
    let some : l.number ≡ 0 → ⊥ = c.if-number-eq0.false in
    record {
      small = omega arith;
      is = digit-joins text (drop l.bytes text) after l.number digit (l.number * 10 + digit) (omega arith) l.invariant.is
          (drop_more text l.bytes 0 inside ∙ ap (λ (k : ℕ). k ∷ after) byte) (omega arith) (omega arith) (omega arith);
    }
