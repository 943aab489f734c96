use Rattle.std.proofs.Common.{◌≡◌, ℕ, suc, ◌+◌, ◌*◌, ◌/◌, ◌%◌, ◌<◌, ◌≤◌, eqb, ltb, pos, ◌+ℤ◌, ◌-ℤ◌, min, ◌-◌, refl, sym, ap, ◌∙◌, arith, ⊎_elim}
use Rattle.std.specs.Int.{int_min}
use Rattle.std.proofs.lemmas.Int.{ints}
use Rattle.std.proofs.lemmas.Bool.{cond-true, cond-false, eq-eqb, ne_eqb, lt-ltb, le-ltb, cases_lt}
use Rattle.std.proofs.Math.Nat.{min-eq_left, min-eq_right}
use Rattle.gl_sphere.specs.Sine.{radians, sine_term, sine_sum, quarter_sine}
use Rattle.gl_sphere.specs.Lemmas.Quotients.{div-mono}

-- the first quarter of the circle ends at half of pi
pub radians-at_most : (n : ℕ) → n ≤ 540000000 → radians n ≤ 15707963267948966
unfolding radians
radians-at_most n h =
    div-mono (n * 31415926535897932) (540000000 * 31415926535897932) 1080000000 (omega arith)
    (omega arith)

pub sine_term-first : (x : ℕ) → sine_term x 0 ≡ x
unfolding sine_term
sine_term-first x = refl

pub sine_term-next : (x k : ℕ)
    → sine_term x (suc k) ≡ sine_term x k * (x * x / 10000000000000000) / 10000000000000000 /
    ((2 * k + 2) * (2 * k + 3))
unfolding sine_term
sine_term-next x k = refl

pub sine_sum-even : (x k : ℕ) → k % 2 ≡ 0 → sine_sum x (suc k) ≡ sine_sum x k +ℤ pos (sine_term x k)
unfolding sine_sum
sine_sum-even x k h = cond-true (eqb (k % 2) 0) _ _ (eq-eqb _ _ h)

pub sine_sum-odd : (x k : ℕ) → k % 2 ≡ 1 → sine_sum x (suc k) ≡ sine_sum x k -ℤ pos (sine_term x k)
unfolding sine_sum
sine_sum-odd x k h =
    cond-false (eqb (k % 2) 0) _ _ (ne_eqb _ _ (λ (e : k % 2 ≡ 0). absurd (omega arith)))

-- the sum of one term is that term
pub sine_sum-first : (x : ℕ) → sine_sum x 1 ≡ pos x
unfolding sine_sum sine_term
sine_sum-first x = ap pos (omega arith)

-- the next term, from the term before it and the square of the angle
pub sine_term-after : (x t s k j r : ℕ) → j ≡ suc k → t ≡ sine_term x k
    → s ≡ x * x / 10000000000000000 → r ≡ t * s / 10000000000000000 / ((2 * k + 2) * (2 * k + 3))
    → r ≡ sine_term x j
sine_term-after x t s k j r next term_is square_is r_is =
    let e : sine_term x j ≡ sine_term x (suc k) = ap (sine_term x) next in
    let f = sine_term-next x k in
    cc

-- two terms more, where the sum stays a natural number
pub sine_sum-pair : (x k m s a b : ℕ) → k % 2 ≡ 0 → m ≡ k + 3 → pos s ≡ sine_sum x (k + 1)
    → a ≡ sine_term x (k + 1) → b ≡ sine_term x (k + 2) → a ≤ s → pos (s - a + b) ≡ sine_sum x m
sine_sum-pair x k m s a b even m_is sum_is a_is b_is le =
    let one : k + 1 ≡ suc k = omega arith in
    let two : k + 2 ≡ suc (suc k) = omega arith in
    let three : m ≡ suc (suc (suc k)) = omega arith in
    let less = sine_sum-odd x (suc k) (omega arith) in
    let more = sine_sum-even x (suc (suc k)) (omega arith) in
    omega (
      arith,
      ints,
      ap (sine_sum x) one,
      ap (sine_sum x) three,
      ap (sine_term x) one,
      ap (sine_term x) two,
      less,
      more,
    )

-- the least of one and the sum
pub min-is_int_min : (s u : ℕ) → pos (min s u) ≡ int_min (pos u) (pos s)
min-is_int_min s u =
    ⊎_elim
    (λ (lt : s < u). ap pos (min-eq_left (omega arith))
    ∙ sym (cond-true (ltb s u) (pos s) (pos u) (lt-ltb s u lt)))
    (λ (ge : u ≤ s). ap pos (min-eq_right ge)
    ∙ sym (cond-false (ltb s u) (pos s) (pos u) (le-ltb s u ge)))
    (cases_lt s u)

pub quarter_sine-sum : (n x s r : ℕ) → x ≡ radians n → pos s ≡ sine_sum x 11
    → r ≡ min s 10000000000000000 → pos r ≡ quarter_sine n
unfolding quarter_sine
quarter_sine-sum n x s r x_is sum_is r_is =
    let e : pos s ≡ sine_sum (radians n) 11 = sum_is ∙ ap (λ y. sine_sum y 11) x_is in
    ap pos r_is ∙ min-is_int_min s 10000000000000000 ∙ ap (int_min (pos 10000000000000000)) e
