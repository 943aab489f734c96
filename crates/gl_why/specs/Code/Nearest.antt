-- How near fixes are to a point, as far as a loop has come.
use Rattle.std.specs.Prelude.{◌≡◌, ℕ, ◌<◌, ◌≤◌, List, slice_get, Some}
use Rattle.gl_igc.specs.declared.fix.Fix.{Fix}
use Rattle.gl_sphere.specs.Distance.{distance}
use Rattle.gl_sphere.specs.declared.place.Vec3.{Vec3}
use Rattle.gl_why.specs.Crossings.{IsSpot}
use Rattle.gl_why.specs.declared.fact.Miss.{Miss}

-- this is the fix of a number, and how far it is from a point
pub record IsMissAt (fixes : List Fix) (i : ℕ) (point : Vec3) (miss : Miss) : Type 0 where
  pub number : miss.at.number ≡ i
  pub spot : IsSpot fixes miss.at
  pub distance_is : miss.distance ≡ distance miss.at.fix.at point

-- of the fixes from one on and before another this is the first one that is the nearest to a point
pub record IsNearestBefore (fixes : List Fix) (from behind : ℕ) (point : Vec3) (miss : Miss)
    : Type 0 where
  pub spot : IsSpot fixes miss.at
  pub after : from ≤ miss.at.number
  pub before : miss.at.number < behind
  pub distance_is : miss.distance ≡ distance miss.at.fix.at point
  pub least : (i : ℕ) (fix : Fix) → from ≤ i → i < behind → slice_get fixes i ≡ Some fix
      → miss.distance ≤ distance fix.at point
  pub first : (i : ℕ) (fix : Fix) → from ≤ i → i < miss.at.number → slice_get fixes i ≡ Some fix
      → miss.distance < distance fix.at point
