use Rattle.std.proofs.Common.{◌≡◌, ℕ, zero, suc, ◌+◌, ◌-◌, ◌*◌, ◌<◌, ◌≤◌, cond, leb, sym, subst, arith, ⊎_elim}
use Rattle.std.proofs.lemmas.Bool.{cond_both, leb-true, leb-false, cases_lt}
use Rattle.std.proofs.Math.Nat.{mul-le-mul, le_antisymm}
use Rattle.gl_sphere.specs.Distance.{floor_root}

-- r is the square root of n, rounded down
pub record IsRoot (n r : ℕ) : Type 0 where
  pub square_at_most : r * r ≤ n
  pub next_square_above : n < (r + 1) * (r + 1)

IsRoot-suc : (n r : ℕ) → IsRoot n r → IsRoot (suc n) (cond (leb ((r + 1) * (r + 1)) (suc n)) (r + 1) r)
IsRoot-suc n r h =
    cond_both (leb ((r + 1) * (r + 1)) (suc n)) (r + 1) r (IsRoot (suc n))
    (λ e. record { square_at_most = leb-true _ _ e; next_square_above = omega (arith, h.next_square_above) })
    (λ e. record { square_at_most = omega (arith, h.square_at_most); next_square_above = leb-false _ _ e })

pub IsRoot-floor_root : (n : ℕ) → IsRoot n (floor_root n)
unfolding floor_root
IsRoot-floor_root zero = record { square_at_most = omega arith; next_square_above = omega arith }
IsRoot-floor_root (suc n) = IsRoot-suc n (floor_root n) (IsRoot-floor_root n)

-- the root never falls
pub IsRoot-mono : (q n r s : ℕ) → IsRoot q r → IsRoot n s → q ≤ n → r ≤ s
IsRoot-mono q n r s h k le =
    ⊎_elim
    (λ (lt : s < r). let p : (s + 1) * (s + 1) ≤ r * r = mul-le-mul (omega arith) (omega arith) in absurd (omega (arith, h.square_at_most, k.next_square_above)))
    (λ (ge : r ≤ s). ge)
    (cases_lt s r)

pub IsRoot-unique : (n r : ℕ) → IsRoot n r → r ≡ floor_root n
IsRoot-unique n r h =
    le_antisymm (IsRoot-mono n n r (floor_root n) h (IsRoot-floor_root n) (omega arith)) (IsRoot-mono n n (floor_root n) r (IsRoot-floor_root n) h (omega arith))

pub floor_root-mono : (q n : ℕ) → q ≤ n → floor_root q ≤ floor_root n
floor_root-mono q n h =
    IsRoot-mono q n (floor_root q) (floor_root n) (IsRoot-floor_root q) (IsRoot-floor_root n) h

-- the number below one whose square is little above n
pub IsRoot-below : (n g : ℕ) → n < g * g → g * g - n < 2 * g → IsRoot n (g - 1)
IsRoot-below n zero h k = absurd (omega (arith, h))
IsRoot-below n (suc r) h k =
    let e : suc r - 1 ≡ r = omega arith in
    let P : ℕ → Type 0 = IsRoot n in
    subst P (sym e) (record { square_at_most = omega (arith, k); next_square_above = omega (arith, h) })
