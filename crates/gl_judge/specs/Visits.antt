-- Visits of zones, and the finishes after them.
use Rattle.std.specs.Prelude.{◌≡◌, ℕ, ◌≤◌, IsTrue, List, [], ◌∷◌, length, take, slice_get, IsSomeAnd, ℤ}
use Rattle.gl_igc.specs.declared.fix.Fix.{Fix}
use Rattle.gl_task.specs.declared.day_type.Finish.{Finish}
use Rattle.gl_zone.specs.declared.zone.Zone.{Zone}
use Rattle.gl_zone.specs.Zones.{is_in_zone}
use Rattle.gl_judge.specs.declared.stretch.Stretch.{Stretch}
use Rattle.gl_judge.specs.Finishes.{IsFinish}
use Rattle.gl_judge.specs.JudgedFixes.{IsInRange}
use Rattle.gl_goal.specs.Chain.{last_of}

-- the fix of this number is judged, and in a zone
pub record IsInZone (fixes : List Fix) (judged : Stretch) (zone : Zone) (i : ℕ) : Type 0 where
  pub is_judged : IsInRange judged i
  pub inside : IsSomeAnd (slice_get fixes i) (λ fix. IsTrue (is_in_zone zone fix.at))

-- A visit of some zones from a fix on: for each zone the number of a judged fix in it, none below
-- the number for the zone before, and the first not below that fix.
abbrev pub IsVisit : List Fix → Stretch → List Zone → ℕ → List ℕ → Type 0
IsVisit fixes judged [] from [] = Unit {0}
IsVisit fixes judged [] from (z ∷ zs) = ⊥
IsVisit fixes judged (zone ∷ zones) from [] = ⊥
IsVisit fixes judged (zone ∷ zones) from (z ∷ zs) =
    (from ≤ z) × IsInZone fixes judged zone z × IsVisit fixes judged zones z zs

-- some zones have a visit from a fix on that ends with this fix
pub record HasVisit (fixes : List Fix) (judged : Stretch) (zones : List Zone) (from last : ℕ)
    : Type 0 where
  pub visit : List ℕ
  pub is_visit : IsVisit fixes judged zones from visit
  pub ends : last_of from visit ≡ last

-- the zones have a visit from a fix on, with a finish after its last fix, at f and at this time
pub record Finishes (finish : Finish) (fixes : List Fix) (judged : Stretch) (zones : List Zone)
    (from f : ℕ) (time : ℤ) : Type 0 where
  pub last : ℕ
  pub visited : HasVisit fixes judged zones from last
  pub finished : IsFinish finish fixes judged last f time

-- the zones have a visit from a fix on, with a finish after its last fix
pub record CanFinish (finish : Finish) (fixes : List Fix) (judged : Stretch) (zones : List Zone)
    (from : ℕ) : Type 0 where
  pub f : ℕ
  pub time : ℤ
  pub finishes : Finishes finish fixes judged zones from f time

-- some of the zones, so many from the first one on, have a visit from a fix on
pub record VisitsFirst (fixes : List Fix) (judged : Stretch) (zones : List Zone) (from count : ℕ)
    : Type 0 where
  pub within : count ≤ length zones
  pub last : ℕ
  pub visited : HasVisit fixes judged (take count zones) from last
