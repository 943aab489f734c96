-- What finishes a flight.
use Rattle.std.specs.Prelude.{◌≡◌, ℕ, ◌+◌, ◌≤◌, List, slice_get, Some, ℤ}
use Rattle.gl_sphere.specs.declared.place.Vec3.{Vec3}
use Rattle.gl_sphere.specs.Distance.{squared_chord, written_distance}
use Rattle.gl_igc.specs.declared.fix.Fix.{Fix}
use Rattle.gl_task.specs.declared.day_type.Finish.{Finish}
use Rattle.gl_task.specs.declared.day_type.Finish.TheVariants.{Ring, Gate}
use Rattle.gl_judge.specs.declared.stretch.Stretch.{Stretch}
use Rattle.gl_judge.specs.Crossings.{Crosses}
use Rattle.gl_judge.specs.JudgedFixes.{IsInRange}

-- the fix of this number is judged, lies in a ring and has this second
pub record IsInRing (at : Vec3) (radius : ℕ) (fixes : List Fix) (judged : Stretch) (f : ℕ)
    (time : ℤ) : Type 0 where
  pub is_judged : IsInRange judged f
  pub fix : Fix
  pub fix_is : slice_get fixes f ≡ Some fix
  pub near : written_distance (squared_chord fix.at at) ≤ radius
  pub time_is : time ≡ fix.second

-- the fix of this number lies in the finish ring, or the finish line is crossed there
abbrev pub IsAtFinish : Finish → List Fix → Stretch → ℕ → ℤ → Type 0
IsAtFinish (Ring at radius) fixes judged f time = IsInRing at radius fixes judged f time
IsAtFinish (Gate line) fixes judged f time = Crosses line fixes judged f time

-- how many fixes a finish comes behind the last fix of a visit, at least: the fix from which a gate
-- is crossed may be that fix, and so may the one in a ring
abbrev pub lead_of : Finish → ℕ
lead_of (Ring at radius) = 0
lead_of (Gate line) = 1

-- the fix of this number is a finish at a time after a visit that ended with the fix z
pub record IsFinish (finish : Finish) (fixes : List Fix) (judged : Stretch) (z f : ℕ) (time : ℤ)
    : Type 0 where
  pub after : z + lead_of finish ≤ f
  pub at_finish : IsAtFinish finish fixes judged f time
