-- How near the sums of the quick series of a sine come to the written ones.
use Rattle.std.proofs.Common.{◌≡◌, ℕ, zero, suc, ◌+◌, ◌-◌, ◌*◌, ◌/◌, ◌≤◌, min, pos, ◌+ℤ◌, ◌-ℤ◌, refl, ap, subst, arith}
use Rattle.std.proofs.lemmas.Int.{ints}
use Rattle.std.proofs.Math.Nat.{mul-le-mul}
use Rattle.gl_sphere.specs.Code.Quick.{IsNearTerm, IsQuickSine}
use Rattle.gl_sphere.specs.Range.{IsWithin}
use Rattle.gl_sphere.specs.Sine.{radians, sine_term, sine_sum}
use Rattle.gl_sphere.specs.Lemmas.Bounds.{sine_term-falls, square-at_most, partial_sum}
use Rattle.gl_sphere.specs.Lemmas.Quotients.{div-mono}
use Rattle.gl_sphere.specs.Lemmas.Series.{radians-at_most, sine_term-first, sine_term-next, sine_term-after, sine_sum-odd, sine_sum-even, quarter_sine-sum}

-- a term never falls where the angle grows
sine_term-mono : (x y k : ℕ) → x ≤ y → sine_term x k ≤ sine_term y k
sine_term-mono x y zero h = omega (arith, sine_term-first x, sine_term-first y)
sine_term-mono x y (suc k) h =
    let square = div-mono (x * x) (y * y) 10000000000000000 (omega arith) (mul-le-mul h h) in
    let product = div-mono
    (sine_term x k * (x * x / 10000000000000000))
    (sine_term y k * (y * y / 10000000000000000)) 10000000000000000 (omega arith)
    (mul-le-mul (sine_term-mono x y k h) square) in
    let quotient = div-mono _ _ ((2 * k + 2) * (2 * k + 3)) (omega arith) product in
    omega (arith, sine_term-next x k, sine_term-next y k, quotient)

greatest_tenth : sine_term 15707963267948966 9 ≤ 440
unfolding sine_term
greatest_tenth = omega arith

-- the two terms of the written series that the quick one leaves out
tenth_term-bound : (n : ℕ) → n ≤ 540000000 → sine_term (radians n) 9 ≤ 440
tenth_term-bound n h =
    omega (
      arith,
      sine_term-mono (radians n) 15707963267948966 9 (radians-at_most n h),
      greatest_tenth,
    )

-- no term is greater than the first
pub sine_term-bound : (n k : ℕ) → n ≤ 540000000 → sine_term (radians n) k ≤ 20000000000000000
sine_term-bound n zero h =
    omega (arith, sine_term-first (radians n), radians-at_most n h)
sine_term-bound n (suc k) h =
    omega (arith, sine_term-bound n k h, sine_term-falls (radians n) k (square-at_most n h))

-- the term after term k, by the quotients of the one before it
pub near_next : (x k j term : ℕ) → j ≡ suc k
    → IsNearTerm (sine_term x k * (x * x / 10000000000000000) / 10000000000000000 /
    ((2 * k + 2) * (2 * k + 3))) term
    → IsNearTerm (sine_term x j) term
near_next x k j term next near =
    subst (λ (t : ℕ). IsNearTerm t term)
    (sine_term-after x (sine_term x k) (x * x / 10000000000000000) k j _ next refl refl refl) near

-- two terms more add at most twice eight to the error
pub near_pair : (x pair sum odd even : ℕ)
    → IsWithin (8 * (2 * pair + 1)) (pos sum -ℤ sine_sum x (2 * pair + 1))
    → IsNearTerm (sine_term x (2 * pair + 1)) odd → IsNearTerm (sine_term x (2 * pair + 2)) even
    → odd ≤ sum
    → IsWithin (8 * (2 * (pair + 1) + 1))
    (pos (sum - odd + even) -ℤ sine_sum x (2 * (pair + 1) + 1))
near_pair x pair sum odd even sum_near odd_near even_near le =
    let one : 2 * pair + 1 ≡ suc (2 * pair) = omega arith in
    let two : 2 * pair + 2 ≡ suc (suc (2 * pair)) = omega arith in
    let three : 2 * (pair + 1) + 1 ≡ suc (suc (suc (2 * pair))) = omega arith in
    let less = sine_sum-odd x (suc (2 * pair)) (omega arith) in
    let more = sine_sum-even x (suc (suc (2 * pair))) (omega arith) in
    let at_one = ap (sine_sum x) one in
    let at_three = ap (sine_sum x) three in
    let odd_is = ap (sine_term x) one in
    let even_is = ap (sine_term x) two in
    let gap : IsWithin (8 * (2 * (pair + 1) + 1))
    (pos sum -ℤ pos odd +ℤ pos even -ℤ sine_sum x (2 * (pair + 1) + 1)) = (
      omega (arith, ints, sum_near.0, odd_near.most, even_near.least),
      omega (arith, ints, sum_near.1, odd_near.least, even_near.most),
    ) in
    (omega (arith, ints, gap.0), omega (arith, ints, gap.1))

-- the whole sum, and at most one
pub near_sine : (n sum result : ℕ) → n ≤ 540000000
    → IsWithin 72 (pos sum -ℤ sine_sum (radians n) 9) → result ≡ min sum 10000000000000000
    → IsQuickSine n result
near_sine n sum result h near result_is =
    let x = radians n in
    let tenth = tenth_term-bound n h in
    let falls = sine_term-falls x 9 (square-at_most n h) in
    let less = sine_sum-odd x 9 refl in
    let more = sine_sum-even x 10 refl in
    let written = partial_sum x 5 (square-at_most n h) in
    let sine = quarter_sine-sum n x written.0 _ refl written.1.sum_is refl in (
      omega (arith, ints, tenth, falls, less, more, written.1.sum_is, sine, near.0, near.1),
      omega (arith, ints, tenth, falls, less, more, written.1.sum_is, sine, near.0, near.1),
    )
