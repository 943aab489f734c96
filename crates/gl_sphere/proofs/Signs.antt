-- What is written of a number with a sign, by the sign.
use Rattle.std.proofs.Common.{◌≡◌, ℕ, zero, suc, ◌+◌, ◌*◌, ◌≤◌, ℤ, pos, negsuc, neg_ℤ, ◌-ℤ◌, ◌≤ℤ◌, ◌<ℤ◌, ◌/◌, Bool, true, false, refl, sym, ap, ◌∙◌, arith}
use Rattle.std.specs.Prelude.{unsigned_abs}
use Rattle.std.proofs.lemmas.Int.{ints}
use Rattle.std.proofs.lemmas.Bool.{ltb-true, le-ltb, true≢false, false≢true}
use lib.Signed.{lt_z}
use mathlib.Core.Bool.{beq}
use Rattle.gl_sphere.specs.Product.{with_sign_of, product, scaled}
use Rattle.gl_sphere.specs.Sine.{half_turn_sine, written_sine}
use Rattle.gl_sphere.specs.Range.{IsWithin}
use Rattle.gl_sphere.specs.Lemmas.Signs.{abs_at_most}

-- two numbers within m differ by at most twice m
pub gap_at_most : (a b : ℤ) (m : ℕ) → IsWithin m a → IsWithin m b → unsigned_abs (a -ℤ b) ≤ 2 * m
gap_at_most a b m h k =
    abs_at_most (a -ℤ b) (2 * m) (omega (arith, ints, h.0, h.1, k.0, k.1), omega (arith, ints, h.0, h.1, k.0, k.1))

pub with_sign_of-negative : (z : ℤ) (n : ℕ) → z <ℤ pos 0 → with_sign_of z n ≡ neg_ℤ (pos n)
unfolding with_sign_of
with_sign_of-negative (pos a) n h = absurd (omega (arith, ints))
with_sign_of-negative (negsuc a) n h = refl

pub with_sign_of-natural : (z : ℤ) (n : ℕ) → pos 0 ≤ℤ z → with_sign_of z n ≡ pos n
unfolding with_sign_of
with_sign_of-natural (pos a) n h = refl
with_sign_of-natural (negsuc a) n h = absurd (omega (arith, ints))

pub written_sine-negative : (z : ℤ) → z <ℤ pos 0 → written_sine z ≡ neg_ℤ (half_turn_sine (unsigned_abs z))
unfolding written_sine
written_sine-negative (pos a) h = absurd (omega (arith, ints))
written_sine-negative (negsuc a) h = ap (λ n. neg_ℤ (half_turn_sine n)) (omega arith)

pub written_sine-natural : (z : ℤ) → pos 0 ≤ℤ z → written_sine z ≡ half_turn_sine (unsigned_abs z)
unfolding written_sine
written_sine-natural (pos a) h = refl
written_sine-natural (negsuc a) h = absurd (omega (arith, ints))

-- a number's sign given to a whole number that is zero where the number is
with_sign_of-neg : (p q : ℕ) → (p ≡ 0 → q ≡ 0) → with_sign_of (neg_ℤ (pos p)) q ≡ neg_ℤ (pos q)
unfolding with_sign_of
with_sign_of-neg zero q h = ap pos (h refl) ∙ sym (ap (λ n. neg_ℤ (pos n)) (h refl))
with_sign_of-neg (suc p) q h = refl

quotient-zero : (p : ℕ) → p ≡ 0 → p / 10000000000000000 ≡ 0
quotient-zero p h = ap (λ n. n / 10000000000000000) h

same_from_beq : (x y : Bool) → beq x y ≡ true → x ≡ y
same_from_beq true true h = refl
same_from_beq true false h = sym h
same_from_beq false true h = h
same_from_beq false false h = refl

not_same_from_beq : (x y : Bool) → beq x y ≡ false → x ≡ y → ⊥
not_same_from_beq true true h e = true≢false h
not_same_from_beq true false h e = true≢false e
not_same_from_beq false true h e = false≢true e
not_same_from_beq false false h e = true≢false h

product-same_sign : (a b : ℤ) → lt_z a (pos 0) ≡ lt_z b (pos 0) → product a b ≡ pos (unsigned_abs a * unsigned_abs b / 10000000000000000)
unfolding product with_sign_of
product-same_sign (pos m) (pos n) h = refl
product-same_sign (pos m) (negsuc n) h = absurd (omega (arith, ltb-true m 0 h))
product-same_sign (negsuc m) (pos n) h = absurd (omega (arith, ltb-true n 0 (sym h)))
product-same_sign (negsuc m) (negsuc n) h = refl

product-other_sign : (a b : ℤ) → (lt_z a (pos 0) ≡ lt_z b (pos 0) → ⊥) → product a b ≡ neg_ℤ (pos (unsigned_abs a * unsigned_abs b / 10000000000000000))
unfolding product
product-other_sign (pos m) (pos n) h = absurd (h (le-ltb m 0 (omega arith) ∙ sym (le-ltb n 0 (omega arith))))
product-other_sign (pos m) (negsuc n) h = with_sign_of-neg (m * suc n) _ (quotient-zero (m * suc n))
product-other_sign (negsuc m) (pos n) h = with_sign_of-neg (suc m * n) _ (quotient-zero (suc m * n))
product-other_sign (negsuc m) (negsuc n) h = absurd (h refl)

-- two factors with one sign
pub product-alike : (a b : ℤ) → beq (lt_z a (pos 0)) (lt_z b (pos 0)) ≡ true → product a b ≡ pos (unsigned_abs a * unsigned_abs b / 10000000000000000)
product-alike a b h = product-same_sign a b (same_from_beq _ _ h)

-- two factors with different signs
pub product-unlike : (a b : ℤ) → beq (lt_z a (pos 0)) (lt_z b (pos 0)) ≡ false → product a b ≡ neg_ℤ (pos (unsigned_abs a * unsigned_abs b / 10000000000000000))
product-unlike a b h = product-other_sign a b (not_same_from_beq _ _ h)

pub scaled-negative : (m : ℤ) (n : ℕ) → m <ℤ pos 0 → n ≡ (unsigned_abs m * 1274200000 + 10000000000000000) / 20000000000000000 → scaled m ≡ neg_ℤ (pos n)
unfolding scaled
scaled-negative m n h e =
    with_sign_of-negative m _ h ∙ ap (λ k. neg_ℤ (pos k)) (ap (λ k. k / 20000000000000000) (omega arith) ∙ sym e)

pub scaled-natural : (m : ℤ) (n : ℕ) → pos 0 ≤ℤ m → n ≡ (unsigned_abs m * 1274200000 + 10000000000000000) / 20000000000000000 → scaled m ≡ pos n
unfolding scaled
scaled-natural m n h e =
    with_sign_of-natural m _ h ∙ ap pos (ap (λ k. k / 20000000000000000) (omega arith) ∙ sym e)

-- a factor's sign is the product's
product-negated : (p q : ℕ) → product (pos p) (neg_ℤ (pos q)) ≡ neg_ℤ (product (pos p) (pos q))
unfolding product with_sign_of
product-negated p zero = omega (arith, ints, quotient-zero (p * 0) (omega arith))
product-negated p (suc q) = with_sign_of-neg (p * suc q) _ (quotient-zero (p * suc q))

pub scaled-negated : (m : ℕ) → scaled (neg_ℤ (pos m)) ≡ neg_ℤ (scaled (pos m))
unfolding scaled with_sign_of
scaled-negated zero = refl
scaled-negated (suc m) = refl

-- and so is that of the length along the radius
pub scaled_product-negated : (p q : ℕ)
    → scaled (product (pos p) (neg_ℤ (pos q))) ≡ neg_ℤ (scaled (product (pos p) (pos q)))
unfolding product with_sign_of
scaled_product-negated p q =
    ap scaled (product-negated p q) ∙ scaled-negated (p * q / 10000000000000000)

pub product-whole : (p : ℕ) → product (pos p) (pos 10000000000000000) ≡ pos p
unfolding product with_sign_of
product-whole p = ap pos (omega arith)
