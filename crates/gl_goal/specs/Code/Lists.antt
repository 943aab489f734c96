-- Lists of fixes to choose from, as the code keeps them, with their hulls.
use Rattle.std.specs.Arc.{arc_value}
use Rattle.std.specs.Prelude.{◌≡◌, ℕ, ◌≤◌, List, length, map, All}
use Rattle.gl_igc.specs.declared.fix.Fix.{Fix}
use Rattle.gl_goal.specs.Chain.{fixes_at}
use Rattle.gl_goal.specs.Lists.{AreLists}
use Rattle.gl_goal.specs.declared.axis.Axis.{Axis}

-- the numbers of each axis
abbrev pub lists_of : List Axis → List (List ℕ)
lists_of axes = map (λ axis. axis.numbers.items) axes

-- the hulls of an axis are over the fixes of its numbers
abbrev pub IsHulled : List Fix → Axis → Type 0
IsHulled fixes axis = arc_value axis.hulls ≡ fixes_at fixes axis.numbers.items

-- the axes have lists of fixes, each with the hulls over it
pub record AreHulled (fixes : List Fix) (axes : List Axis) : Type 0 where
  pub most_fixes : length fixes ≤ 90_000
  pub lists : AreLists fixes (lists_of axes)
  pub hulled : All (IsHulled fixes) axes

-- fixes, and lists of numbers that name them
pub record Listed : Type 0 where
  pub fixes : List Fix
  pub lists : List (List ℕ)
