-- Ways that go on by one leg, to a fix from another that stands on a side of it.
use Rattle.std.specs.Prelude.{◌≡◌, ℕ, ◌+◌, ◌*◌, ◌<◌, ◌≤◌, ◌^◌, List, length, get_or, Some, slice_get, All}
use Rattle.gl_box.specs.Cell.{ends}
use Rattle.gl_igc.specs.declared.fix.Fix.{Fix}
use Rattle.gl_goal.specs.Near.{IsPlaceOf}
use Rattle.gl_places.specs.declared.by_place.ByPlace.{ByPlace}
use Rattle.gl_places.specs.ByPlace.{IsByPlace}
use Rattle.gl_sphere.specs.Distance.{written_distance}
use Rattle.gl_free.specs.declared.branch.Branch.{Branch}
use Rattle.gl_free.specs.declared.tree.Tree.{Tree}
use Rattle.gl_free.specs.declared.way.Longest.{Longest}
use Rattle.gl_free.specs.declared.way.Most.{Most}
use Rattle.gl_free.specs.declared.way.Target.{Target}
use Rattle.gl_free.specs.Code.Ends.{Stands}
use Rattle.gl_free.specs.Code.Places.{chord, leg}

-- how long the way to a fix is, with one more: 0 where there is none
abbrev pub way_to : List ℕ → ℕ → ℕ
way_to ways number = get_or ways number 0

-- the point is that of the fix with this number
pub record IsTarget (fixes : List Fix) (target : Target) : Type 0 where
  pub fix : Fix
  pub there : slice_get fixes target.number ≡ Some fix
  pub at : target.at ≡ fix.at

-- there is a way to the fix `from`, which stands on the side of the target
pub record IsWay (ways : List ℕ) (target : Target) (from : ℕ) : Type 0 where
  pub within : from < length ways
  pub some : 0 < way_to ways from
  pub stands : Stands target.side from target.number

-- how long the way is with one more leg, to the target
abbrev pub onward : List Fix → List ℕ → Target → ℕ → ℕ
onward fixes ways target from = way_to ways from + leg fixes from target.number

-- what was found is no shorter than by the leg that is kept of it
abbrev pub IsKnown : Longest → Type 0
IsKnown found = found.way + written_distance found.chord ≤ found.length

-- what was found is a way that is so long, if it is longer than the floor
pub record IsFound (fixes : List Fix) (ways : List ℕ) (target : Target) (floor : ℕ)
    (found : Longest) : Type 0 where
  pub within : found.from < length ways
  pub reached : floor < found.length
      → IsWay ways target found.from × (found.length ≡ onward fixes ways target found.from)

-- what was found became no shorter, and no way by a fix of a kind is longer
pub record Lengthens (fixes : List Fix) (ways : List ℕ) (target : Target) (kind : ℕ → Type 0)
    (old new : Longest) : Type 0 where
  pub longer : old.length ≤ new.length
  pub known : IsKnown new
  pub found : (floor : ℕ) → IsFound fixes ways target floor old
      → IsFound fixes ways target floor new
  pub above : (from : ℕ) → kind from → IsWay ways target from
      → onward fixes ways target from ≤ new.length

-- the fix with a number has its place in a span
pub record IsThere (numbers : List ℕ) (span : ℕ × ℕ) (number : ℕ) : Type 0 where
  pub place : ℕ
  pub inside : IsPlaceOf span place
  pub within : place < length numbers
  pub is : get_or numbers place 0 ≡ number

-- a way by a fix of a span is at most so long, and the chord from there
abbrev pub AreAtMost : List Fix → List ℕ → List ℕ → Target → ℕ × ℕ → Most → Type 0
AreAtMost fixes numbers ways target span most =
    (from : ℕ) → IsThere numbers span from → IsWay ways target from
    → (way_to ways from ≤ most.way) × (chord fixes from target.number ≤ most.chord)

-- the numbers of a span lie between two, and the ways to these fixes are at most so long
abbrev pub IsBranch : List ℕ → List ℕ → Branch → Type 0
IsBranch numbers ways branch =
    (number : ℕ) → IsThere numbers (ends branch.span) number
    → (branch.numbers.lo ≤ number) × (number ≤ branch.numbers.hi)
    × (way_to ways number ≤ branch.most)

-- there is a way for each fix, and what is kept of the spans is true
pub record IsTree (fixes : List Fix) (by_place : ByPlace) (tree : Tree) : Type 0 where
  pub some : 0 < length fixes
  pub few : length fixes ≤ 90_000
  pub order : IsByPlace fixes by_place
  pub long : length tree.ways.items ≡ length fixes
  pub limited : All (λ way. way ≤ 2 ^ 40) tree.ways.items
  pub sized : length tree.branches.items ≡ 2 * length fixes
  pub branches : All (IsBranch by_place.numbers.items tree.ways.items) tree.branches.items
