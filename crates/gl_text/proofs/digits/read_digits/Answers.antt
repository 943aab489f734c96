use Rattle.std.proofs.Common.{ℕ, ◌^◌, ◌<◌, ◌≤◌, arith, lit<, get_or, sym, rules}
use Rattle.std.proofs.Math.Nat.{pow-le-pow_right}
use Rattle.std.specs.Int.{IsInRange}
use Rattle.gl_text.proofs.DigitLemmas.{digits_so_far, value_so_far, number_of-other, number_of-digits, bound_so_far}
use Rattle.gl_text.proofs.digits.read_digits.Goals as goal

-- at most eight digits came before this one
most : (index len : ℕ) → index < len → len ≤ 9 → 10 ^ index ≤ 10 ^ 8
most index len inside short = pow-le-pow_right {n = 10} (lit< tt) {i = index} {j = 8} (omega arith)

pub overflow_mul-number : goal.overflow_mul-number
overflow_mul-number c =
    let bound = most c.loop-digit.digit-index _ c.loop-digit-test.true c.requires in
    omega (arith, c.loop-digit.invariant.bound, bound)

pub overflow_add-number : goal.overflow_add-number
overflow_add-number c =
    let bound = most c.loop-digit.digit-index _ c.loop-digit-test.true c.requires in
    omega (arith, c.loop-digit.invariant.bound, bound)

pub returns-then-not-is_ascii_digit-clause-value : goal.returns-then-not-is_ascii_digit-clause-value
returns-then-not-is_ascii_digit-clause-value c =
    sym (number_of-other c.args.digits.now c.loop-digit.digit-index c.loop-digit-test.true (search rules))

pub loop-digit-preserved : goal.loop-digit-preserved
loop-digit-preserved c =
    let l = c.loop-digit in
    let digit : IsInRange 48 57 (get_or c.args.digits.now l.digit-index 0) = search rules in
    let value = value_so_far c.args.digits.now l.digit-index l.number c.loop-digit-test.true digit l.invariant.value in
    let bound = bound_so_far l.number l.digit-index (get_or c.args.digits.now l.digit-index 0) l.invariant.bound digit in
    record {
      digits = digits_so_far c.args.digits.now l.digit-index c.loop-digit-test.true (search rules) l.invariant.digits;
      value = omega (arith, value);
      bound = omega (arith, bound);
    }

pub returns-clause-value : goal.returns-clause-value
returns-clause-value c =
    let l = c.loop-digit in
    sym (number_of-digits c.args.digits.now l.digit-index l.number (omega arith) l.invariant.digits l.invariant.value)
