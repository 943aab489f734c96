-- A distance isn't less than the chord under it.
use Rattle.std.proofs.Common.{◌≡◌, ℕ, ◌+◌, ◌*◌, ◌<◌, ◌≤◌, arith, ⊎_elim, false}
use Rattle.std.specs.Prelude.{nat_le}
use Rattle.std.proofs.lemmas.Bool.{cases_lt}
use Rattle.std.proofs.Math.Nat.{mul-le-mul}
use Rattle.gl_sphere.specs.Distance.{arc_over, floor_root, written_distance}
use Rattle.gl_sphere.proofs.Roots.{IsRoot-floor_root}

pub root_within_distance : (q : ℕ) → floor_root q ≤ written_distance q
unfolding written_distance arc_over
root_within_distance q = omega arith

-- a point whose squared chord is that of one more than the radius, or above, is farther away than the radius
pub far_is_outside : (q radius : ℕ) → (radius + 1) * (radius + 1) ≤ q → nat_le (written_distance q) radius ≡ false
far_is_outside q radius far =
    let root = IsRoot-floor_root q in
    let above : radius < floor_root q = ⊎_elim
    (λ (lt : radius < floor_root q). lt)
    (λ (le : floor_root q ≤ radius). let p : (floor_root q + 1) * (floor_root q + 1) ≤ (radius + 1) * (radius + 1) = mul-le-mul (omega arith) (omega arith) in
    absurd (omega (arith, root.next_square_above)))
    (cases_lt radius (floor_root q)) in
    let far : radius < written_distance q = omega (arith, root_within_distance q) in
    grind arith
