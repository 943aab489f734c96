use Rattle.std.proofs.Common.{◌≡◌, ℕ, ◌+◌, ◌*◌, ◌^◌, ◌<◌, ◌≤◌, ℤ, ◌+ℤ◌, ◌-ℤ◌, ◌*ℤ◌, FitsSigned, to_z, of_z, ap, ◌∙◌, arith}
use Rattle.std.specs.Prelude.{unsigned_abs}
use Rattle.std.proofs.lemmas.Int.{ints, to_z-of_z, unsigned_abs-mul, fits_signed_from_abs}
use mir.Syntax.{Width}
use mir.Val.{hbits}
use Rattle.std.proofs.Math.Nat.{mul-le-mul}
use Rattle.gl_sphere.specs.Lemmas.Signs.{abs_at_most, within_from_abs}
use Rattle.gl_sphere.specs.Range.{IsWithin}

-- a product is within the product of the bounds
pub product_within : (a b : ℤ) (m n : ℕ) → IsWithin m a → IsWithin n b → IsWithin (m * n) (a *ℤ b)
product_within a b m n h k =
    let size : unsigned_abs a * unsigned_abs b ≤ m * n = mul-le-mul (abs_at_most a m h) (abs_at_most b n k) in
    within_from_abs (a *ℤ b) (m * n) (omega (arith, unsigned_abs-mul a b))

-- what is within a bound below the width's fits the width
pub fits_within : (w : Width) (z : ℤ) (m : ℕ) → m < 2 ^ hbits w → IsWithin m z → FitsSigned w z
fits_within w z m room h = fits_signed_from_abs w z (omega (arith, abs_at_most z m h))

-- a number within such a bound is the machine's
pub kept : (w : Width) (z : ℤ) (m : ℕ) → m < 2 ^ hbits w → IsWithin m z → to_z w (of_z w z) ≡ z
kept w z m room h = to_z-of_z w z (fits_within w z m room h)

pub sum_within : (a b : ℤ) (m n : ℕ) → IsWithin m a → IsWithin n b → IsWithin (m + n) (a +ℤ b)
sum_within a b m n h k = (omega (arith, ints, h.0, h.1, k.0, k.1), omega (arith, ints, h.0, h.1, k.0, k.1))

pub difference_within : (a b : ℤ) (m n : ℕ) → IsWithin m a → IsWithin n b → IsWithin (m + n) (a -ℤ b)
difference_within a b m n h k = (omega (arith, ints, h.0, h.1, k.0, k.1), omega (arith, ints, h.0, h.1, k.0, k.1))

-- the machine's sum of two numbers
pub sum_kept : (w : Width) (a b : ℤ) (m n : ℕ) → m + n < 2 ^ hbits w → IsWithin m a → IsWithin n b → to_z w (of_z w (to_z w (of_z w a) +ℤ to_z w (of_z w b))) ≡ a +ℤ b
sum_kept w a b m n room h k =
    let e : to_z w (of_z w a) ≡ a = kept w a m (omega arith) h in
    let f : to_z w (of_z w b) ≡ b = kept w b n (omega arith) k in
    rw (e, f) (kept w (a +ℤ b) (m + n) room (sum_within a b m n h k))

-- the machine's sum of three numbers
pub three_kept : (w : Width) (a b c : ℤ) (m : ℕ) → m + m + m < 2 ^ hbits w → IsWithin m a → IsWithin m b → IsWithin m c
    → to_z w (of_z w (to_z w (of_z w (to_z w (of_z w a) +ℤ to_z w (of_z w b))) +ℤ to_z w (of_z w c))) ≡ a +ℤ b +ℤ c
three_kept w a b c m room h k l =
    let e : to_z w (of_z w (to_z w (of_z w a) +ℤ to_z w (of_z w b))) ≡ a +ℤ b = sum_kept w a b m m (omega arith) h k in
    let f : to_z w (of_z w c) ≡ c = kept w c m (omega arith) l in
    rw (e, f) (kept w (a +ℤ b +ℤ c) (m + m + m) room (sum_within (a +ℤ b) c (m + m) m (sum_within a b m m h k) l))

pub three_within : (a b c : ℤ) (m : ℕ) → IsWithin m a → IsWithin m b → IsWithin m c → IsWithin (3 * m) (a +ℤ b +ℤ c)
three_within a b c m h k l = (omega (arith, ints, h.0, h.1, k.0, k.1, l.0, l.1), omega (arith, ints, h.0, h.1, k.0, k.1, l.0, l.1))

-- the machine's difference of two numbers
pub difference_kept : (w : Width) (a b : ℤ) (m n : ℕ) → m + n < 2 ^ hbits w → IsWithin m a → IsWithin n b → to_z w (of_z w (to_z w (of_z w a) -ℤ to_z w (of_z w b))) ≡ a -ℤ b
difference_kept w a b m n room h k =
    let e : to_z w (of_z w a) ≡ a = kept w a m (omega arith) h in
    let f : to_z w (of_z w b) ≡ b = kept w b n (omega arith) k in
    rw (e, f) (kept w (a -ℤ b) (m + n) room (difference_within a b m n h k))

-- a product whose factors are passed in widths of their own
pub product_passed : (v w : Width) (r a b : ℤ) (m n : ℕ) → m < 2 ^ hbits v → n < 2 ^ hbits w → IsWithin m a → IsWithin n b → r ≡ to_z v (of_z v a) *ℤ to_z w (of_z w b) → r ≡ a *ℤ b
product_passed v w r a b m n room space h k e =
    let f : to_z v (of_z v a) ≡ a = kept v a m room h in
    let g : to_z w (of_z w b) ≡ b = kept w b n space k in
    e ∙ ap (λ z. z *ℤ to_z w (of_z w b)) f ∙ ap (λ z. a *ℤ z) g

-- the machine's product, where the second factor comes from another width
pub product_kept : (v w : Width) (a b : ℤ) (m n : ℕ) → m < 2 ^ hbits w → n < 2 ^ hbits v → n < 2 ^ hbits w → m * n < 2 ^ hbits w → IsWithin m a → IsWithin n b
    → to_z w (of_z w (to_z w (of_z w a) *ℤ to_z w (of_z w (to_z v (of_z v b))))) ≡ a *ℤ b
product_kept v w a b m n ra rv rw_ room h k =
    let e : to_z w (of_z w a) ≡ a = kept w a m ra h in
    let g : to_z v (of_z v b) ≡ b = kept v b n rv k in
    let f : to_z w (of_z w b) ≡ b = kept w b n rw_ k in
    rw (e, g, f) (kept w (a *ℤ b) (m * n) room (product_within a b m n h k))

-- the machine's sums fit
pub sum_fits : (w : Width) (a b : ℤ) (m n : ℕ) → m + n < 2 ^ hbits w → IsWithin m a → IsWithin n b → FitsSigned w (to_z w (of_z w a) +ℤ to_z w (of_z w b))
sum_fits w a b m n room h k =
    let e : to_z w (of_z w a) ≡ a = kept w a m (omega arith) h in
    let f : to_z w (of_z w b) ≡ b = kept w b n (omega arith) k in
    rw (e, f) (fits_within w (a +ℤ b) (m + n) room (sum_within a b m n h k))

pub three_fit : (w : Width) (a b c : ℤ) (m : ℕ) → m + m + m < 2 ^ hbits w → IsWithin m a → IsWithin m b → IsWithin m c
    → FitsSigned w (to_z w (of_z w (to_z w (of_z w a) +ℤ to_z w (of_z w b))) +ℤ to_z w (of_z w c))
three_fit w a b c m room h k l =
    let e : to_z w (of_z w (to_z w (of_z w a) +ℤ to_z w (of_z w b))) ≡ a +ℤ b = sum_kept w a b m m (omega arith) h k in
    let f : to_z w (of_z w c) ≡ c = kept w c m (omega arith) l in
    rw (e, f) (fits_within w (a +ℤ b +ℤ c) (m + m + m) room (sum_within (a +ℤ b) c (m + m) m (sum_within a b m m h k) l))

pub difference_fits : (w : Width) (a b : ℤ) (m n : ℕ) → m + n < 2 ^ hbits w → IsWithin m a → IsWithin n b → FitsSigned w (to_z w (of_z w a) -ℤ to_z w (of_z w b))
difference_fits w a b m n room h k =
    let e : to_z w (of_z w a) ≡ a = kept w a m (omega arith) h in
    let f : to_z w (of_z w b) ≡ b = kept w b n (omega arith) k in
    rw (e, f) (fits_within w (a -ℤ b) (m + n) room (difference_within a b m n h k))
