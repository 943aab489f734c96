-- What a machine keeps of the components of points and of their differences.
use Rattle.std.proofs.Common.{◌≡◌, ◌<◌, ◌^◌, ℤ, pos, neg_ℤ, ◌≤ℤ◌, ◌-ℤ◌, to_z, of_z, w32, ap, sym, subst, ◌∙◌, arith}
use Rattle.std.specs.Prelude.{unsigned_abs, int_lt}
use lib.Signed.{mag}
use Rattle.std.specs.Int.{int_min, int_max}
use Rattle.std.proofs.lemmas.Int.{ints, to_z-of_z, int_max_is}
use Rattle.std.proofs.lemmas.Bool.{cond_both}
use Rattle.gl_sphere.specs.Lemmas.Signs.{abs_at_most}
use Rattle.gl_sphere.proofs.Signs.{gap_at_most}
use Rattle.gl_sphere.specs.Range.{IsWithin}
use Rattle.gl_sphere.specs.Sphere.{radius}

pub small-kept : (z : ℤ) → unsigned_abs z < 2 ^ 31 → to_z w32 (of_z w32 z) ≡ z
small-kept z small = grind (arith, ints, to_z-of_z)

pub kept : (z : ℤ) → IsWithin radius z → to_z w32 (of_z w32 z) ≡ z
kept z within = small-kept z (omega (arith, abs_at_most z radius within))

pub difference-kept : (a b : ℤ) → IsWithin radius a → IsWithin radius b → to_z w32 (of_z w32 (to_z w32 (of_z w32 a) -ℤ to_z w32 (of_z w32 b))) ≡ a -ℤ b
difference-kept a b a_in b_in =
    ap (λ z. to_z w32 (of_z w32 (z -ℤ to_z w32 (of_z w32 b)))) (kept a a_in)
    ∙ ap (λ z. to_z w32 (of_z w32 (a -ℤ z))) (kept b b_in)
    ∙ small-kept (a -ℤ b) (omega (arith, gap_at_most a b radius a_in b_in))

int_min-within : (a b : ℤ) → IsWithin radius a → IsWithin radius b → IsWithin radius (int_min a b)
int_min-within a b a_in b_in = cond_both (int_lt b a) b a (IsWithin radius) (λ _. b_in) (λ _. a_in)

int_max-within : (a b : ℤ) → IsWithin radius a → IsWithin radius b → IsWithin radius (int_max a b)
int_max-within a b a_in b_in = cond_both (int_lt b a) a b (IsWithin radius) (λ _. a_in) (λ _. b_in)

-- the lower of two values, as the machine finds it
pub lower-kept : (a b r : ℤ) → IsWithin radius a → IsWithin radius b → r ≡ int_min (to_z w32 (of_z w32 a)) (to_z w32 (of_z w32 b)) → to_z w32 (of_z w32 r) ≡ int_min a b
lower-kept a b r a_in b_in is =
    ap (λ z. to_z w32 (of_z w32 z)) (is ∙ ap (λ z. int_min z (to_z w32 (of_z w32 b))) (kept a a_in) ∙ ap (int_min a) (kept b b_in))
    ∙ kept (int_min a b) (int_min-within a b a_in b_in)

pub higher-kept : (a b r : ℤ) → IsWithin radius a → IsWithin radius b → r ≡ int_max (to_z w32 (of_z w32 a)) (to_z w32 (of_z w32 b)) → to_z w32 (of_z w32 r) ≡ int_max a b
higher-kept a b r a_in b_in is =
    ap (λ z. to_z w32 (of_z w32 z)) (is ∙ ap (λ z. int_max z (to_z w32 (of_z w32 b))) (kept a a_in) ∙ ap (int_max a) (kept b b_in))
    ∙ kept (int_max a b) (int_max-within a b a_in b_in)

pub lower-within : (a b r : ℤ) → IsWithin radius a → IsWithin radius b → r ≡ int_min a b → IsWithin radius r
lower-within a b r a_in b_in is = let P : ℤ → Type 0 = IsWithin radius in subst P (sym is) (int_min-within a b a_in b_in)

pub higher-within : (a b r : ℤ) → IsWithin radius a → IsWithin radius b → r ≡ int_max a b → IsWithin radius r
higher-within a b r a_in b_in is = let P : ℤ → Type 0 = IsWithin radius in subst P (sym is) (int_max-within a b a_in b_in)

pub altitude-within : (lo hi : ℤ) → neg_ℤ (pos 9999) ≤ℤ lo → lo ≤ℤ hi → hi ≤ℤ pos 32767 → IsWithin radius lo × IsWithin radius hi
altitude-within lo hi low ordered high =
    ((omega (arith, ints), omega (arith, ints)), (omega (arith, ints), omega (arith, ints)))

-- the greater of two differences, as the machine finds it
pub greater-kept : (a b d e r : ℤ) → IsWithin radius a → IsWithin radius b → IsWithin radius d → IsWithin radius e
    → r ≡ int_max (to_z w32 (of_z w32 (to_z w32 (of_z w32 a) -ℤ to_z w32 (of_z w32 b)))) (to_z w32 (of_z w32 (to_z w32 (of_z w32 d) -ℤ to_z w32 (of_z w32 e))))
    → to_z w32 (of_z w32 r) ≡ int_max (a -ℤ b) (d -ℤ e)
greater-kept a b d e r a_in b_in d_in e_in is =
    let small : unsigned_abs (int_max (a -ℤ b) (d -ℤ e)) < 2 ^ 31 = omega (arith, ints, int_max_is (a -ℤ b) (d -ℤ e), gap_at_most a b radius a_in b_in, gap_at_most d e radius d_in e_in) in
    ap (λ z. to_z w32 (of_z w32 z)) (is ∙ ap (λ z. int_max z (to_z w32 (of_z w32 (to_z w32 (of_z w32 d) -ℤ to_z w32 (of_z w32 e))))) (difference-kept a b a_in b_in)
    ∙ ap (int_max (a -ℤ b)) (difference-kept d e d_in e_in))
    ∙ small-kept (int_max (a -ℤ b) (d -ℤ e)) small

-- a number that the machine holds
pub held-kept : (z : ℤ) → mag z < 2147483648 → to_z w32 (of_z w32 z) ≡ z
held-kept z held = grind (arith, ints, to_z-of_z)
