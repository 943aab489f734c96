-- Where airspace cuts a flight.
use Rattle.std.specs.Prelude.{◌≡◌, ℕ, true, List, [], ◌∷◌, position, slice_get, Some, ℤ, pos, ◌≤ℤ◌}
use Rattle.gl_airspace.specs.Inside.{is_inside}
use Rattle.gl_airspace.specs.declared.volume.Volume.{Volume}
use Rattle.gl_igc.specs.declared.fix.Fix.{Fix}
use Rattle.gl_judge.specs.JudgedFixes.{is_in_airspace}
use Rattle.gl_judge.specs.declared.stretch.Stretch.{Stretch}
use Rattle.gl_why.specs.Crossings.{IsSpot}
use Rattle.gl_why.specs.declared.fact.Cut as code_cut
use Rattle.gl_why.specs.declared.fact.Fact as code
use Rattle.gl_why.specs.declared.fact.Fact.TheVariants as fact

-- the fix of this number has second 0 or more, isn't too late, and is inside some volume
pub record IsEntry (closes : ℤ) (volumes : List Volume) (fixes : List Fix) (number : ℕ)
    : Type 0 where
  pub fix : Fix
  pub is : slice_get fixes number ≡ Some fix
  pub of_day : pos 0 ≤ℤ fix.second
  pub in_time : fix.second ≤ℤ closes
  pub inside : is_in_airspace volumes fix ≡ true

-- the fix behind the judged ones is inside a volume, the first that it is inside of
pub record IsCut (closes : ℤ) (volumes : List Volume) (fixes : List Fix) (judged : Stretch)
    (cut : code_cut.Cut) : Type 0 where
  pub number : cut.at.number ≡ judged.to
  pub spot : IsSpot fixes cut.at
  pub entry : IsEntry closes volumes fixes judged.to
  pub volume_is : position (λ volume. is_inside volume cut.at.fix) volumes ≡ Some cut.volume

-- that is told, where airspace ends the judged fixes
pub data IsCutTold (closes : ℤ) (volumes : List Volume) (fixes : List Fix) (judged : Stretch)
    (facts : List code.Fact) : Type 0 where
  nowhere : (IsEntry closes volumes fixes judged.to → ⊥) → facts ≡ []
      → IsCutTold closes volumes fixes judged facts
  somewhere : (cut : code_cut.Cut) → IsCut closes volumes fixes judged cut
      → facts ≡ fact.Cut cut ∷ [] → IsCutTold closes volumes fixes judged facts
