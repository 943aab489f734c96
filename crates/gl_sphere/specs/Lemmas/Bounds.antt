use Rattle.std.proofs.Common.{◌≡◌, ℕ, zero, suc, ◌+◌, ◌-◌, ◌*◌, ◌/◌, ◌<◌, ◌≤◌, min, ℤ, pos, negsuc, neg_ℤ, ◌-ℤ◌, refl, sym, ap, subst, arith, ⊎_elim}
use Rattle.std.specs.Prelude.{unsigned_abs}
use Rattle.std.proofs.Props.{props}
use Rattle.std.proofs.lemmas.Int.{ints}
use Rattle.std.proofs.lemmas.Bool.{cases_lt}
use Rattle.std.proofs.Math.Nat.{mul-le-mul, div-le_of_le-mul}
use Rattle.gl_sphere.specs.Product.{with_sign_of, product, scaled}
use Rattle.gl_sphere.specs.Range.{IsWithin}
use Rattle.gl_sphere.specs.Sine.{radians, sine_term, sine_sum, quarter_sine, half_turn_sine, written_sine, written_cosine}
use Rattle.gl_sphere.specs.Lemmas.Quotients.{div-mono, scaled_at_most}
use Rattle.gl_sphere.specs.Lemmas.Series.{radians-at_most, sine_term-first, sine_sum-first, sine_sum-pair, quarter_sine-sum}
use Rattle.gl_sphere.specs.Lemmas.Signs.{abs_at_most, within_from_abs, half_turn_sine-first, half_turn_sine-second}

-- a term is at most the one before it, where the angle's square is at most three
pub sine_term-falls : (x k : ℕ) → x * x / 10000000000000000 ≤ 30000000000000000
    → sine_term x (suc k) ≤ sine_term x k
unfolding sine_term
sine_term-falls x k h =
    let t = sine_term x k in
    let tripled = scaled_at_most (sine_term x k) (x * x / 10000000000000000)
    (sine_term x k) 3 10000000000000000 (omega arith) (omega arith) in
    let divisor : 3 ≤ (2 * k + 2) * (2 * k + 3) = omega arith in
    let p : 3 * sine_term x k ≤ (2 * k + 2) * (2 * k + 3) * sine_term x k =
    mul-le-mul divisor (omega arith) in
    div-le_of_le-mul ((2 * k + 2) * (2 * k + 3)) (omega arith)

-- the sum of an odd number of terms is a natural number, at least its last term
pub record IsPartialSum (x j s : ℕ) : Type 0 where
  pub sum_is : pos s ≡ sine_sum x (2 * j + 1)
  pub last_in_sum : sine_term x (2 * j) ≤ s

pub partial_sum : (x j : ℕ) → x * x / 10000000000000000 ≤ 30000000000000000
    → (s : ℕ) × IsPartialSum x j s
partial_sum x zero h =
    (x, record { sum_is = sym (sine_sum-first x); last_in_sum = omega (arith, sine_term-first x) })
partial_sum x (suc j) h =
    let before = partial_sum x j h in
    let s = before.0 in
    let odd = sine_term x (2 * j + 1) in
    let even = sine_term x (2 * j + 2) in
    let one : suc (2 * j) ≡ 2 * j + 1 = omega arith in
    let double : 2 * suc j ≡ 2 * j + 2 = omega arith in
    let falls : odd ≤ s = omega (
      arith,
      sine_term-falls x (2 * j) h,
      ap (sine_term x) one,
      before.1.last_in_sum,
    ) in
    let last : sine_term x (2 * suc j) ≡ even = ap (sine_term x) double in (
      s - odd + even,
      record {
        sum_is = sine_sum-pair x (2 * j) (2 * suc j + 1) s odd even (omega arith)
            (omega arith) before.1.sum_is refl refl falls;
        last_in_sum = omega (arith, last);
      },
    )

pub square-at_most : (n : ℕ) → n ≤ 540000000
    → radians n * radians n / 10000000000000000 ≤ 30000000000000000
square-at_most n h =
    let le : radians n ≤ 15707963267948966 = radians-at_most n h in
    let p : radians n * radians n ≤ 15707963267948966 * 15707963267948966 = mul-le-mul le le in
    omega (
      arith,
      div-mono (radians n * radians n)
          (15707963267948966 * 15707963267948966) 10000000000000000 (omega arith) p,
    )

pub natural-within : (r u : ℕ) → r ≤ u → IsWithin u (pos r)
natural-within r u h = within_from_abs (pos r) u h

quarter_sine-within : (n : ℕ) → n ≤ 540000000 → IsWithin 10000000000000000 (quarter_sine n)
quarter_sine-within n h =
    let s = partial_sum (radians n) 5 (square-at_most n h) in
    let e : pos (min s.0 10000000000000000) ≡ quarter_sine n =
    quarter_sine-sum n (radians n) s.0 _ refl s.1.sum_is refl in
    subst (IsWithin 10000000000000000) e
    (natural-within (min s.0 10000000000000000) 10000000000000000 (omega arith))

half_turn_sine-within : (n : ℕ) → n ≤ 1080000000 → IsWithin 10000000000000000 (half_turn_sine n)
half_turn_sine-within n h =
    ⊎_elim
    (λ (lt : 540000000 < n). subst (IsWithin 10000000000000000) (sym (half_turn_sine-second n lt))
    (quarter_sine-within (1080000000 - n) (omega arith)))
    (λ (le : n ≤ 540000000). subst (IsWithin 10000000000000000) (sym (half_turn_sine-first n le))
    (quarter_sine-within n le))
    (cases_lt 540000000 n)

-- the sine of an angle within half a turn is within one
pub written_sine-within : (z : ℤ) → IsWithin 1080000000 z
    → IsWithin 10000000000000000 (written_sine z)
unfolding written_sine
written_sine-within (pos n) h = half_turn_sine-within n (abs_at_most (pos n) 1080000000 h)
written_sine-within (negsuc n) h =
    let w = half_turn_sine-within (n + 1) (omega (arith, abs_at_most (negsuc n) 1080000000 h)) in
    (omega (arith, ints, w.0, w.1), omega (arith, ints, w.0, w.1))

pub written_cosine-within : (z : ℤ) → IsWithin 1080000000 z
    → IsWithin 10000000000000000 (written_cosine z)
unfolding written_cosine
written_cosine-within z h =
    let a = abs_at_most z 1080000000 h in
    written_sine-within (pos 540000000 -ℤ pos (unsigned_abs z))
    (omega (arith, ints, a), omega (arith, ints, a))

with_sign_of-within : (z : ℤ) (n m : ℕ) → n ≤ m → IsWithin m (with_sign_of z n)
unfolding with_sign_of
with_sign_of-within (pos a) n m h = natural-within n m h
with_sign_of-within (negsuc a) n m h = (omega (arith, ints), omega (arith, ints))

pub product-within : (a b : ℤ) → IsWithin 10000000000000000 a → IsWithin 10000000000000000 b
    → IsWithin 10000000000000000 (product a b)
unfolding product
product-within a b h k =
    with_sign_of-within _ _ 10000000000000000
    (omega (
      arith,
      scaled_at_most (unsigned_abs a)
          (unsigned_abs b) 10000000000000000 1 10000000000000000 (abs_at_most a _ h)
          (omega (arith, abs_at_most b 10000000000000000 k)),
    ))

pub scaled-within : (m : ℤ) → IsWithin 10000000000000000 m → IsWithin 637100000 (scaled m)
unfolding scaled
scaled-within m h =
    let a = abs_at_most m 10000000000000000 h in
    let p : 2 * unsigned_abs m * 637100000 + 10000000000000000
    ≤ 2 * 10000000000000000 * 637100000 + 10000000000000000 = omega arith in
    with_sign_of-within m _ 637100000
    (div-mono _ (2 * 10000000000000000 * 637100000 + 10000000000000000) 20000000000000000
    (omega arith) p)

-- what is within m is within a greater bound
pub within-more : (z : ℤ) (m n : ℕ) → m ≤ n → IsWithin m z → IsWithin n z
within-more z m n h w = (omega (arith, ints, w.0, w.1), omega (arith, ints, w.0, w.1))

pub within-prop : (m : ℕ) (z : ℤ) → IsProp (IsWithin m z)
within-prop m z = hlevel props

pub negative-within : (z : ℤ) (m : ℕ) → IsWithin m z → IsWithin m (neg_ℤ z)
negative-within z m w = (omega (arith, ints, w.0, w.1), omega (arith, ints, w.0, w.1))
