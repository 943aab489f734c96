-- What holds of each two points of two boxes.
use Rattle.std.proofs.Common.{◌≡◌, ◌∙◌, ap, refl, ◌≤◌, ℤ, pos, ◌-ℤ◌, arith}
use Rattle.std.specs.Prelude.{unsigned_abs}
use Rattle.std.proofs.lemmas.Int.{ints, int_max_is}
use Rattle.std.specs.Int.{int_max}
use Rattle.std.proofs.Math.Nat.{mul-le-mul}
use Rattle.gl_sphere.specs.declared.place.Vec3.{Vec3}
use Rattle.gl_sphere.specs.Distance.{squared_chord, squared_gap}
use Rattle.gl_igc.specs.declared.fix.Fix.{Fix}
use Rattle.gl_goal.specs.Box.{Box, IsBetween, IsInside}
use Rattle.gl_goal.specs.Chords.{reach, gap, squared, greatest_chord, least_chord}

difference-at_most : (one other : ℤ × ℤ) (p q : ℤ) → IsBetween one p → IsBetween other q → unsigned_abs (p -ℤ q) ≤ reach one other
unfolding reach
difference-at_most one other p q h k = omega (arith, ints, h.0, h.1, k.0, k.1)

squared_gap-at_most : (one other : ℤ × ℤ) (p q : ℤ) → IsBetween one p → IsBetween other q → squared_gap p q ≤ squared (reach one other)
unfolding squared_gap
squared_gap-at_most one other p q h k =
    mul-le-mul (difference-at_most one other p q h k) (difference-at_most one other p q h k)

difference-at_least : (one other : ℤ × ℤ) (p q : ℤ) → IsBetween one p → IsBetween other q → gap one other ≤ unsigned_abs (p -ℤ q)
unfolding gap
difference-at_least one other p q h k =
    let greater = int_max (other.0 -ℤ one.1) (one.0 -ℤ other.1) in
    omega (arith, ints, h.0, h.1, k.0, k.1, int_max_is (other.0 -ℤ one.1) (one.0 -ℤ other.1), int_max_is greater (pos 0))

squared_gap-at_least : (one other : ℤ × ℤ) (p q : ℤ) → IsBetween one p → IsBetween other q → squared (gap one other) ≤ squared_gap p q
unfolding squared_gap
squared_gap-at_least one other p q h k =
    mul-le-mul (difference-at_least one other p q h k) (difference-at_least one other p q h k)

-- no two points of two boxes have a greater squared chord than the greatest one
pub squared_chord-at_most : (one other : Box) (p q : Vec3) → IsInside one p → IsInside other q → squared_chord p q ≤ greatest_chord one other
unfolding squared_chord greatest_chord
squared_chord-at_most one other p q h k =
    omega (arith, squared_gap-at_most one.x other.x p.x q.x h.x k.x, squared_gap-at_most one.y other.y p.y q.y h.y k.y, squared_gap-at_most one.z other.z p.z q.z h.z k.z)

-- and none a lesser one than the least
pub squared_chord-at_least : (one other : Box) (p q : Vec3) → IsInside one p → IsInside other q → least_chord one other ≤ squared_chord p q
unfolding squared_chord least_chord
squared_chord-at_least one other p q h k =
    omega (arith, squared_gap-at_least one.x other.x p.x q.x h.x k.x, squared_gap-at_least one.y other.y p.y q.y h.y k.y, squared_gap-at_least one.z other.z p.z q.z h.z k.z)

-- the gap of two single values is their difference
pub gap-at : (a b : ℤ) (one other : ℤ × ℤ) → one ≡ (a, a) → other ≡ (b, b) → squared (gap one other) ≡ squared_gap a b
unfolding gap squared_gap
gap-at a b one other one_is other_is =
    let greater = int_max (b -ℤ a) (a -ℤ b) in
    let same : gap (a, a) (b, b) ≡ unsigned_abs (a -ℤ b) = omega (arith, ints, int_max_is (b -ℤ a) (a -ℤ b), int_max_is greater (pos 0)) in
    (λ i. squared (gap (one_is i) (other_is i))) ∙ ap squared same
