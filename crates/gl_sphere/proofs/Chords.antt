use Rattle.std.proofs.Common.{◌*◌, ◌≤◌, ℤ, arith}
use Rattle.std.proofs.Math.Nat.{mul-le-mul}
use Rattle.gl_sphere.specs.Distance.{squared_gap, squared_chord}
use Rattle.gl_sphere.proofs.Signs.{gap_at_most}
use Rattle.gl_sphere.specs.Range.{IsWithin}
use Rattle.gl_sphere.specs.declared.place.Vec3.{Vec3}
use Rattle.gl_sphere.specs.declared.sphere.TheConstants.{GREATEST_SQUARE, RADIUS}

-- a component takes at most a third of the greatest square
pub squared_gap-bound : (a b : ℤ) → IsWithin RADIUS a → IsWithin RADIUS b → 3 * squared_gap a b ≤ GREATEST_SQUARE
unfolding squared_gap
squared_gap-bound a b h k =
    let gap = gap_at_most a b 637100000 h k in
    let p = mul-le-mul gap gap in
    omega arith

-- any two points are within the greatest square
pub squared_chord-bound : (a b : Vec3) → squared_chord a b ≤ GREATEST_SQUARE
unfolding squared_chord
squared_chord-bound a b =
    omega (arith, squared_gap-bound a.x b.x a.x_in_range b.x_in_range, squared_gap-bound a.y b.y a.y_in_range b.y_in_range, squared_gap-bound a.z b.z a.z_in_range b.z_in_range)
