-- The components of a quick point, by the sizes of the written sines and their signs.
use Rattle.std.proofs.Common.{◌≡◌, ℕ, ◌<◌, ◌≤◌, min, Bool, true, false, ltb, ℤ, pos, negsuc, neg_ℤ, ◌-ℤ◌, refl, sym, ap, ◌∙◌, subst, arith}
use Rattle.std.specs.Int.{abs_diff}
use Rattle.std.specs.Prelude.{unsigned_abs, MatchBool}
use Rattle.std.proofs.lemmas.Bool.{ltb-true, ltb-false, le-ltb}
use Rattle.std.proofs.lemmas.Int.{ints}
use lib.Signed.{lt_z}
use Rattle.gl_sphere.specs.Code.Quick.{IsQuickSine}
use Rattle.gl_sphere.specs.Lemmas.Bounds.{square-at_most, partial_sum}
use Rattle.gl_sphere.specs.Lemmas.Series.{quarter_sine-sum}
use Rattle.gl_sphere.specs.Lemmas.Signs.{half_turn_sine-first}
use Rattle.gl_sphere.specs.Product.{product, scaled}
use Rattle.gl_sphere.specs.Range.{IsWithin}
use Rattle.gl_sphere.specs.Sine.{radians, quarter_sine, half_turn_sine, written_sine, written_cosine}
use Rattle.gl_sphere.proofs.Signs.{written_sine-natural, written_sine-negative, scaled_product-negated, scaled-negated, product-whole}

-- the sine from 0 to 90 degrees is a natural number, at most one
pub record IsNatural (sine : ℤ) (size : ℕ) : Type 0 where
  pub is : pos size ≡ sine
  pub at_most : size ≤ 10000000000000000

pub quarter_sine-natural : (n : ℕ) → n ≤ 540000000 → (size : ℕ) × IsNatural (quarter_sine n) size
quarter_sine-natural n h =
    let sum = partial_sum (radians n) 5 (square-at_most n h) in (
      min sum.0 10000000000000000,
      record {
        is = quarter_sine-sum n (radians n) sum.0 _ refl sum.1.sum_is refl;
        at_most = omega arith;
      },
    )

pub near_size : (n sine size : ℕ) → IsNatural (quarter_sine n) size → IsQuickSine n sine
    → IsWithin 512 (pos sine -ℤ pos size)
near_size n sine size natural near =
    subst (λ (z : ℤ). IsWithin 512 (pos sine -ℤ z)) (sym natural.is) near

-- of an angle with a sign
pub by_sign : (z r l : ℤ) (size : ℕ) (f : ℤ → ℤ) → pos size ≡ half_turn_sine (unsigned_abs z)
    → l ≡ f (pos size) → f (neg_ℤ (pos size)) ≡ neg_ℤ (f (pos size))
    → MatchBool (lt_z z (pos 0)) (r ≡ neg_ℤ l) (r ≡ l) → r ≡ f (written_sine z)
by_sign (pos n) r l size f is length_is odd choice =
    let same : r ≡ l = subst (λ (b : Bool). MatchBool b (r ≡ neg_ℤ l) (r ≡ l)) (le-ltb n 0 (omega arith)) choice in
    same ∙ length_is ∙ ap f (is ∙ sym (written_sine-natural (pos n) (omega (arith, ints))))
by_sign (negsuc n) r l size f is length_is odd choice =
    choice ∙ ap neg_ℤ length_is ∙ sym odd
    ∙ ap f (ap neg_ℤ is ∙ sym (written_sine-negative (negsuc n) (omega (arith, ints))))

-- the cosine within 90 degrees, and beyond
pub cosine-near : (z : ℤ) (n k : ℕ) → k ≡ unsigned_abs z → k ≤ 540000000 → n ≡ abs_diff 540000000 k
    → written_cosine z ≡ quarter_sine n
unfolding written_cosine
cosine-near z n k k_is le n_is =
    let angle : pos 540000000 -ℤ pos (unsigned_abs z) ≡ pos n = omega (arith, ints) in
    ap written_sine angle ∙ written_sine-natural (pos n) (omega (arith, ints))
    ∙ half_turn_sine-first n (omega arith)

cosine-far : (z : ℤ) (n k : ℕ) → k ≡ unsigned_abs z → 540000000 < k → k ≤ 1080000000
    → n ≡ abs_diff 540000000 k → written_cosine z ≡ neg_ℤ (quarter_sine n)
unfolding written_cosine
cosine-far z n k k_is gt le n_is =
    let angle : pos 540000000 -ℤ pos (unsigned_abs z) ≡ neg_ℤ (pos n) = omega (arith, ints) in
    let size : unsigned_abs (neg_ℤ (pos n)) ≡ n = omega (arith, ints) in
    ap written_sine angle ∙ written_sine-negative (neg_ℤ (pos n)) (omega (arith, ints))
    ∙ ap (λ m. neg_ℤ (half_turn_sine m)) size ∙ ap neg_ℤ (half_turn_sine-first n (omega arith))

by_side : (b : Bool) (r l target : ℤ) → MatchBool b (r ≡ neg_ℤ l) (r ≡ l)
    → (b ≡ true → target ≡ neg_ℤ l) → (b ≡ false → target ≡ l) → r ≡ target
by_side true r l target choice negative natural = choice ∙ sym (negative refl)
by_side false r l target choice negative natural = choice ∙ sym (natural refl)

-- the component towards latitude 0 and longitude 0
pub across-is : (z r l cosine : ℤ) (size from_axis n k : ℕ) → k ≡ unsigned_abs z → k ≤ 1080000000
    → n ≡ abs_diff 540000000 k → pos from_axis ≡ cosine → pos size ≡ quarter_sine n
    → l ≡ scaled (product (pos from_axis) (pos size))
    → MatchBool (ltb 540000000 k) (r ≡ neg_ℤ l) (r ≡ l)
    → r ≡ scaled (product cosine (written_cosine z))
across-is z r l cosine size from_axis n k k_is k_in n_is axis_is size_is length_is choice =
    by_side (ltb 540000000 k) r l (scaled (product cosine (written_cosine z))) choice
    (λ (far : ltb 540000000 k ≡ true).
    ap (λ (m : ℤ). scaled (product m (written_cosine z))) (sym axis_is)
    ∙ ap (λ (m : ℤ). scaled (product (pos from_axis) m))
    (cosine-far z n k k_is (ltb-true 540000000 k far) k_in n_is ∙ ap neg_ℤ (sym size_is))
    ∙ scaled_product-negated from_axis size ∙ ap neg_ℤ (sym length_is))
    (λ (near : ltb 540000000 k ≡ false).
    ap (λ (m : ℤ). scaled (product m (written_cosine z))) (sym axis_is)
    ∙ ap (λ (m : ℤ). scaled (product (pos from_axis) m))
    (cosine-near z n k k_is (ltb-false 540000000 k near) n_is ∙ sym size_is)
    ∙ sym length_is)

-- the component towards 90 degrees east
pub east-is : (z r l cosine : ℤ) (size from_axis : ℕ) → pos from_axis ≡ cosine
    → pos size ≡ half_turn_sine (unsigned_abs z) → l ≡ scaled (product (pos from_axis) (pos size))
    → MatchBool (lt_z z (pos 0)) (r ≡ neg_ℤ l) (r ≡ l)
    → r ≡ scaled (product cosine (written_sine z))
east-is z r l cosine size from_axis axis_is size_is length_is choice =
    by_sign z r l size (λ (m : ℤ). scaled (product (pos from_axis) m)) size_is length_is
    (scaled_product-negated from_axis size) choice
    ∙ ap (λ (m : ℤ). scaled (product m (written_sine z))) axis_is

-- the component towards the north pole
pub height-is : (z r l : ℤ) (size : ℕ) → pos size ≡ half_turn_sine (unsigned_abs z)
    → l ≡ scaled (product (pos size) (pos 10000000000000000))
    → MatchBool (lt_z z (pos 0)) (r ≡ neg_ℤ l) (r ≡ l) → r ≡ scaled (written_sine z)
height-is z r l size size_is length_is choice =
    by_sign z r l size scaled size_is (length_is ∙ ap scaled (product-whole size))
    (scaled-negated size) choice
