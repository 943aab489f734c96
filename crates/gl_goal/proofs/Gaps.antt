-- The reach and the gap of two extents.
use Rattle.std.proofs.Common.{◌≡◌, ℕ, ◌*◌, ◌≤◌, ℤ, pos, ◌-ℤ◌, ◌≤ℤ◌, ap, ◌∙◌, arith}
use Rattle.std.specs.Prelude.{unsigned_abs}
use Rattle.std.specs.Int.{int_max}
use Rattle.std.proofs.lemmas.Int.{ints, int_max_is}
use Rattle.std.proofs.Math.Nat.{mul-le-mul}
use Rattle.gl_sphere.specs.Range.{IsWithin}
use Rattle.gl_sphere.specs.Sphere.{radius}
use Rattle.gl_goal.specs.Chords.{reach, gap}

-- the greater of the two differences is no negative number, and it is the reach
pub reach-natural : (lo hi from to r : ℤ) → lo ≤ℤ hi → from ≤ℤ to → r ≡ int_max (hi -ℤ from) (to -ℤ lo) → pos 0 ≤ℤ r
reach-natural lo hi from to r h k is = omega (arith, ints, int_max_is (hi -ℤ from) (to -ℤ lo))

pub reach-is : (lo hi from to r : ℤ) → lo ≤ℤ hi → from ≤ℤ to → r ≡ int_max (hi -ℤ from) (to -ℤ lo) → unsigned_abs r ≡ reach (lo, hi) (from, to)
unfolding reach
reach-is lo hi from to r h k is = omega (arith, ints, int_max_is (hi -ℤ from) (to -ℤ lo))

pub gap-natural : (lo hi from to r s : ℤ) → r ≡ int_max (from -ℤ hi) (lo -ℤ to) → s ≡ int_max r (pos 0) → pos 0 ≤ℤ s
gap-natural lo hi from to r s is least = omega (arith, ints, int_max_is r (pos 0))

-- the greater of the two differences and 0 is the gap
pub gap-is : (lo hi from to r s : ℤ) → r ≡ int_max (from -ℤ hi) (lo -ℤ to) → s ≡ int_max r (pos 0) → unsigned_abs s ≡ gap (lo, hi) (from, to)
unfolding gap
gap-is lo hi from to r s is least = ap unsigned_abs (least ∙ ap (λ z. int_max z (pos 0)) is)

-- a number of at most twice the radius squared takes at most a third of the greatest square
pub reach-bound : (lo hi from to : ℤ) → IsWithin radius lo → IsWithin radius hi → IsWithin radius from → IsWithin radius to → reach (lo, hi) (from, to) ≤ 1274200000
unfolding reach
reach-bound lo hi from to h k m n = omega (arith, ints, h.0, h.1, k.0, k.1, m.0, m.1, n.0, n.1)

pub gap-bound : (lo hi from to : ℤ) → IsWithin radius lo → IsWithin radius hi → IsWithin radius from → IsWithin radius to → gap (lo, hi) (from, to) ≤ 1274200000
unfolding gap
gap-bound lo hi from to h k m n =
    let greater = int_max (from -ℤ hi) (lo -ℤ to) in
    omega (arith, ints, h.0, h.1, k.0, k.1, m.0, m.1, n.0, n.1, int_max_is (from -ℤ hi) (lo -ℤ to), int_max_is greater (pos 0))

pub square-bound : (r : ℕ) → r ≤ 1274200000 → 3 * (r * r) ≤ 4870756920000000000
square-bound r h = omega (arith, mul-le-mul h h)
