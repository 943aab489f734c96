-- Where a flight crosses a line.
use Rattle.std.specs.Prelude.{◌≡◌, ℕ, ◌+◌, List, slice_get, Some, ℤ}
use Rattle.gl_igc.specs.declared.fix.Fix.{Fix}
use Rattle.gl_zone.specs.declared.line.Line.{Line}
use Rattle.gl_zone.specs.Crossing.{CrossesForwards}
use Rattle.gl_judge.specs.declared.stretch.Stretch.{Stretch}
use Rattle.gl_judge.specs.JudgedFixes.{IsInRange}

-- The line is crossed forwards at a time from the fix before this one to this one, both of them
-- judged.
pub record Crosses (line : Line) (fixes : List Fix) (judged : Stretch) (i : ℕ) (time : ℤ)
    : Type 0 where
  pub before : ℕ
  pub next : before + 1 ≡ i
  pub before_judged : IsInRange judged before
  pub behind_judged : IsInRange judged i
  pub x : Fix
  pub y : Fix
  pub x_is : slice_get fixes before ≡ Some x
  pub y_is : slice_get fixes i ≡ Some y
  pub crossed : CrossesForwards line x y time
