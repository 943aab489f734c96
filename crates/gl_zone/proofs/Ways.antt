use Rattle.std.proofs.Common.{◌≡◌, ℕ, zero, suc, ◌+◌, ◌*◌, ◌/◌, ◌<◌, ◌≤◌, eqb, ℤ, pos, negsuc, neg_ℤ, ◌+ℤ◌, ◌-ℤ◌, ◌*ℤ◌, ◌≤ℤ◌, ◌<ℤ◌, refl, sym, ap, ◌∙◌, arith}
use Rattle.std.specs.Prelude.{unsigned_abs, int_div}
use Rattle.std.proofs.lemmas.Int.{ints}
use Rattle.std.proofs.lemmas.Bool.{cond-true, cond-false, eq-eqb, ne_eqb}
use Rattle.std.proofs.Math.Nat.{mul-le-mul, div-le_of_le-mul, zero-div}
use Rattle.gl_zone.specs.Crossing.{on_the_way}

-- a share of a gap is at most the gap
pub share_at_most : (g a b : ℕ) → g * a / (a + b) ≤ g
share_at_most g a b =
    let p : g * a ≤ g * (a + b) = mul-le-mul (omega arith) (omega arith) in
    let q : g * a ≤ (a + b) * g = omega arith in
    div-le_of_le-mul (a + b) q

-- the way has no length
pub on_the_way-none : (a b : ℕ) (p q : ℤ) → a + b ≡ 0 → on_the_way a b p q ≡ q
unfolding on_the_way
on_the_way-none a b p q none = cond-true (eqb (a + b) 0) _ _ (eq-eqb _ _ none)

on_the_way-some : (a b : ℕ) (p q : ℤ) → 0 < a + b → on_the_way a b p q ≡ p +ℤ int_div ((q -ℤ p) *ℤ pos a) (pos (a + b))
unfolding on_the_way
on_the_way-some a b p q some =
    cond-false (eqb (a + b) 0) _ _ (ne_eqb _ _ (λ (e : a + b ≡ 0). absurd (omega arith)))

-- a negative quotient, towards zero
quotient-negative : (n d : ℕ) → int_div (neg_ℤ (pos n)) (pos d) ≡ neg_ℤ (pos (n / d))
quotient-negative zero d =
    let e : 0 / d ≡ 0 = zero-div d in
    ap pos e ∙ sym (ap (λ n. neg_ℤ (pos n)) e)
quotient-negative (suc n) d = refl

product-negative : (g a : ℕ) → neg_ℤ (pos g) *ℤ pos a ≡ neg_ℤ (pos (g * a))
product-negative zero a =
    let e : 0 * a ≡ 0 = omega arith in
    ap pos e ∙ sym (ap (λ n. neg_ℤ (pos n)) e)
product-negative (suc g) a = refl

abs-below : (d : ℤ) → d ≤ℤ pos 0 → pos (unsigned_abs d) ≡ neg_ℤ d
abs-below (pos zero) h = refl
abs-below (pos (suc n)) h = absurd (omega (arith, ints))
abs-below (negsuc n) h = refl

abs-above : (d : ℤ) → pos 0 ≤ℤ d → pos (unsigned_abs d) ≡ d
abs-above (pos n) h = refl
abs-above (negsuc n) h = absurd (omega (arith, ints))

-- from a number to one that isn't below it
pub on_the_way-rising : (a b g s : ℕ) (p q : ℤ) → 0 < a + b → p ≤ℤ q → g ≡ unsigned_abs (p -ℤ q) → s ≡ g * a / (a + b) → p +ℤ pos s ≡ on_the_way a b p q
on_the_way-rising a b g s p q some le g_is s_is =
    let e : q -ℤ p ≡ pos g = omega (arith, ints, abs-below (p -ℤ q) (omega (arith, ints)), ap pos g_is) in
    let f : int_div ((q -ℤ p) *ℤ pos a) (pos (a + b)) ≡ pos s = ap (λ z. int_div (z *ℤ pos a) (pos (a + b))) e ∙ ap pos (sym s_is) in
    ap (λ z. p +ℤ z) (sym f) ∙ sym (on_the_way-some a b p q some)

-- from a number to one below it
pub on_the_way-falling : (a b g s : ℕ) (p q : ℤ) → 0 < a + b → q <ℤ p → g ≡ unsigned_abs (p -ℤ q) → s ≡ g * a / (a + b) → p -ℤ pos s ≡ on_the_way a b p q
on_the_way-falling a b g s p q some lt g_is s_is =
    let e : q -ℤ p ≡ neg_ℤ (pos g) = omega (arith, ints, abs-above (p -ℤ q) (omega (arith, ints)), ap pos g_is) in
    let f : int_div ((q -ℤ p) *ℤ pos a) (pos (a + b)) ≡ neg_ℤ (pos s) =
    ap (λ z. int_div (z *ℤ pos a) (pos (a + b))) e ∙ ap (λ z. int_div z (pos (a + b))) (product-negative g a) ∙ quotient-negative (g * a) (a + b) ∙ ap (λ n. neg_ℤ (pos n)) (sym s_is) in
    ap (λ z. p +ℤ z) (sym f) ∙ sym (on_the_way-some a b p q some)
