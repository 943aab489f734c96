-- Which fixes of a flight are judged.
use Rattle.std.specs.Prelude.{◌≡◌, ℕ, ◌<◌, ◌≤◌, Bool, false, List, length, position, slice_get, Some, unwrap_or, ℤ, pos, int_le, ◌≤ℤ◌}
use Rattle.std.specs.List.{list_any}
use Rattle.gl_igc.specs.declared.fix.Fix.{Fix}
use Rattle.gl_airspace.specs.declared.volume.Volume.{Volume}
use Rattle.gl_airspace.specs.Inside.{is_inside}
use Rattle.gl_judge.specs.declared.stretch.Stretch.{Stretch}

-- a fix is inside a volume
abbrev pub is_in_airspace : List Volume → Fix → Bool
is_in_airspace volumes fix = list_any (λ volume. is_inside volume fix) volumes

-- The fix of this number is judged: a fix up to it has second 0 or more; none up to it is later
-- than the last second that counts; and of those up to it with second 0 or more none is inside a
-- volume.
pub record IsJudgedFix (closes : ℤ) (volumes : List Volume) (fixes : List Fix) (i : ℕ)
    : Type 0 where
  pub there : i < length fixes
  pub begun : (j : ℕ) × (fix : Fix) × (j ≤ i) × (slice_get fixes j ≡ Some fix)
      × (pos 0 ≤ℤ fix.second)
  pub in_time : (j : ℕ) (fix : Fix) → j ≤ i → slice_get fixes j ≡ Some fix → fix.second ≤ℤ closes
  pub outside : (j : ℕ) (fix : Fix) → j ≤ i → slice_get fixes j ≡ Some fix → pos 0 ≤ℤ fix.second
      → is_in_airspace volumes fix ≡ false

-- the number of the first fix with second 0 or more; how many fixes there are where none has
abbrev pub first_of_day : List Fix → ℕ
first_of_day fixes = unwrap_or (position (λ fix. int_le (pos 0) fix.second) fixes) (length fixes)

-- a number stands in a stretch, from its first number up to but without its second
abbrev pub IsInRange : Stretch → ℕ → Type 0
IsInRange stretch i = (stretch.from ≤ i) × (i < stretch.to)

-- the judged fixes are those of a stretch; where there is none, its two numbers are equal
pub record IsJudgedRange (closes : ℤ) (volumes : List Volume) (fixes : List Fix) (stretch : Stretch)
    : Type 0 where
  pub ordered : stretch.from ≤ stretch.to
  pub within : stretch.to ≤ length fixes
  pub each : (i : ℕ) → IsInRange stretch i → IsJudgedFix closes volumes fixes i
  pub all : (i : ℕ) → IsJudgedFix closes volumes fixes i → IsInRange stretch i
