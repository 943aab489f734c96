-- Where a flight crosses the start line, and whether that is outside its times.
use Rattle.std.specs.Prelude.{◌≡◌, ◌&&◌, Bool, false, if◌then◌else◌, is_some, List, [], ◌∷◌, Option, None, Some, ℤ, int_le, ◌<ℤ◌}
use Rattle.std.specs.List.{list_any}
use Rattle.gl_igc.specs.declared.fix.Fix.{Fix}
use Rattle.gl_task.specs.declared.task.Start.{Start}
use Rattle.gl_zone.specs.Crossing.{CrossesForwards}
use Rattle.gl_zone.specs.declared.line.Line.{Line}
use Rattle.gl_look.specs.declared.told.Slip as code_slip
use Rattle.gl_look.specs.declared.told.Slip.TheVariants as slip

-- the line is crossed forwards from a fix to a later one at a time, or it isn't
abbrev pub IsCrossed : Line → Fix → Fix → Option ℤ → Type 0
IsCrossed line x y None = x.second <ℤ y.second → (time : ℤ) → ¬ CrossesForwards line x y time
IsCrossed line x y (Some time) = CrossesForwards line x y time

-- the same of each fix behind another one, and the fix before it
abbrev pub AreCrossedBehind : Line → Fix → List Fix → List (Option ℤ) → Type 0
AreCrossedBehind line x [] crossed = crossed ≡ []
AreCrossedBehind line x (y ∷ fixes) crossed =
    (first : Option ℤ) × (more : List (Option ℤ)) × IsCrossed line x y first
    × AreCrossedBehind line y fixes more × (crossed ≡ first ∷ more)

abbrev pub AreCrossed : Line → List Fix → List (Option ℤ) → Type 0
AreCrossed line [] crossed = crossed ≡ []
AreCrossed line (x ∷ fixes) crossed = AreCrossedBehind line x fixes crossed

-- a start line is crossed in its times, which include both ends
abbrev pub is_in_times : Start → Option ℤ → Bool
is_in_times start None = false
is_in_times start (Some time) = int_le start.opens time && int_le time start.close

-- the start line is crossed, and never in its times
abbrev pub slip_of_start : Start → List (Option ℤ) → Option code_slip.Slip
slip_of_start start crossed =
    if list_any (is_in_times start) crossed then None
    else (if list_any is_some crossed then Some slip.NoStart else None)
