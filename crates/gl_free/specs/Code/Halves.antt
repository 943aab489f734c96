-- The two sides of each middle fix, by the longest ways to it.
use Rattle.std.specs.Prelude.{◌≡◌, ℕ, suc, ◌+◌, ◌<◌, ◌≤◌, List, length, slice_index_or}
use Rattle.gl_igc.specs.declared.fix.Fix.{Fix}
use Rattle.gl_places.specs.declared.by_place.ByPlace.{ByPlace}
use Rattle.gl_free.specs.declared.arm.Arm.{Arm}
use Rattle.gl_free.specs.declared.arm.Arms.{Arms}
use Rattle.gl_free.specs.declared.ends.Ends.{Ends}
use Rattle.gl_free.specs.declared.ends.Sides.{Sides}
use Rattle.gl_free.specs.declared.far.Far.{Far}
use Rattle.gl_free.specs.declared.half.Half.{Half}
use Rattle.gl_free.specs.declared.halves.Halves.{Halves}
use Rattle.gl_free.specs.Code.Arms.{IsArm, arm_length}
use Rattle.gl_free.specs.Code.Ends.{IsAllowed}
use Rattle.gl_free.specs.Code.Farthest.{IsFarthest}
use Rattle.gl_free.specs.Code.Search.{IsBetter}
use Rattle.gl_free.specs.Code.Ways.{IsTree, way_to}

-- there is a way without legs to each of the first fixes that is an allowed end
pub record AreEnds (fixes : List Fix) (allowed : Ends) (ways : List ℕ) : Type 0 where
  pub at_most : (number : ℕ) → number < length ways → way_to ways number ≤ 1
  pub is_allowed : (number : ℕ) → number < length ways → 0 < way_to ways number
      → IsAllowed fixes allowed number
  pub all : (number : ℕ) → number < length ways → IsAllowed fixes allowed number
      → way_to ways number ≡ 1

-- the farthest ends from the first fixes
abbrev pub AreFarthest : List Fix → Ends → List Far → Type 0
AreFarthest fixes allowed far =
    (number : ℕ) (d : Far) → number < length far
    → IsFarthest fixes allowed (number, number) (slice_index_or far number d)

-- the ways of one leg are as long as the farthest ends are far
abbrev pub AreWaysBy : List Far → List ℕ → Type 0
AreWaysBy far ways =
    (number : ℕ) (d : Far) → number < length ways
    → way_to ways number ≡ (slice_index_or far number d).value

-- there is a way of one leg to each fix from its farthest end
pub record IsHalf (fixes : List Fix) (by_place : ByPlace) (half : Half) : Type 0 where
  pub tree : IsTree fixes by_place half.tree
  pub long : length half.ends.items ≡ length fixes
  pub farthest : AreFarthest fixes half.allowed half.ends.items
  pub ways : AreWaysBy half.ends.items half.tree.ways.items

-- what was found for a middle fix is the longest arm, if it is longer than the floor
pub record IsLongestArm (fixes : List Fix) (allowed : Ends) (middle floor : ℕ) (arm : Arm)
    : Type 0 where
  pub reached : floor < arm.most → IsArm fixes allowed middle arm.inner arm.end
      × (arm.most ≡ suc (arm_length fixes middle arm.inner arm.end))
  pub shorter : (inner end : ℕ) → IsArm fixes allowed middle inner end
      → arm_length fixes middle inner end < arm.most

-- both sides
pub record AreHalves (fixes : List Fix) (by_place : ByPlace) (sides : Sides)
    (halves : Halves) : Type 0 where
  pub before : IsHalf fixes by_place halves.before
  pub after : IsHalf fixes by_place halves.after
  pub before_is : halves.before.allowed ≡ sides.before
  pub after_is : halves.after.allowed ≡ sides.after

-- two arms to a middle fix, and no choice there that is worth more than what was found is worth
-- more than they are
pub record AreLongest (fixes : List Fix) (sides : Sides) (middle found : ℕ) (arms : Arms)
    : Type 0 where
  pub before : IsArm fixes sides.before middle arms.before.inner arms.before.end
  pub after : IsArm fixes sides.after middle arms.after.inner arms.after.end
  pub longest : (better : IsBetter fixes sides (middle, middle) found)
      → arm_length fixes better.third better.second better.first
      + arm_length fixes better.third better.fourth better.last
      ≤ arm_length fixes middle arms.before.inner arms.before.end
      + arm_length fixes middle arms.after.inner arms.after.end

-- the inner fixes of two arms are fixes
pub record AreAmong (fixes : List Fix) (arms : Arms) : Type 0 where
  pub before : arms.before.inner < length fixes
  pub after : arms.after.inner < length fixes
