-- How far the ends that are allowed are from the places of a span.
use Rattle.std.specs.Prelude.{◌≡◌, ℕ, suc, ◌<◌, ◌≤◌, ◌^◌, List, length}
use Rattle.gl_box.specs.Cell.{ends}
use Rattle.gl_igc.specs.declared.fix.Fix.{Fix}
use Rattle.gl_goal.specs.Box.{fixes_in, hull_of}
use Rattle.gl_goal.specs.Hull.{box_of}
use Rattle.gl_goal.specs.Near.{IsPlaceOf}
use Rattle.gl_free.specs.declared.ends.Ends.{Ends}
use Rattle.gl_free.specs.declared.far.Far.{Far}
use Rattle.gl_free.specs.declared.node.Node.{Node}
use Rattle.gl_free.specs.Code.Ends.{IsAllowed, Stands}
use Rattle.gl_free.specs.Code.Places.{leg}

-- a node has the hull of its span
pub record IsNode (fixes : List Fix) (node : Node) : Type 0 where
  pub within : node.span.hi < length fixes
  pub hull : box_of node.hull ≡ hull_of (fixes_in fixes (ends node.span))

-- the place `end` is an end that is allowed for the inner place
pub record IsEndOf (fixes : List Fix) (allowed_ends : Ends) (inner end : ℕ) : Type 0 where
  pub allowed : IsAllowed fixes allowed_ends end
  pub stands : Stands allowed_ends.side end inner

-- each end in a span is less far from each inner place in another
abbrev pub IsAbove : (ℕ → ℕ → ℕ) → List Fix → Ends → ℕ × ℕ → ℕ × ℕ → ℕ → Type 0
IsAbove far fixes allowed_ends span of_ value =
    (end inner : ℕ) → IsPlaceOf span end → IsPlaceOf of_ inner
    → IsEndOf fixes allowed_ends inner end → far end inner < value

-- what was found for a single inner place is an end of it, and one less far than the value
abbrev pub IsReachedBy : (ℕ → ℕ → ℕ) → List Fix → Ends → ℕ × ℕ → Far → Type 0
IsReachedBy far fixes allowed_ends of_ found =
    of_.0 ≡ of_.1 → 0 < found.value
    → IsEndOf fixes allowed_ends of_.0 found.place × (found.value ≡ suc (far found.place of_.0))

-- each end is less far from each place of a span
abbrev pub IsBeyond : List Fix → Ends → ℕ × ℕ → ℕ → Type 0
IsBeyond fixes allowed_ends of_ value =
    (end inner : ℕ) → IsPlaceOf of_ inner → IsEndOf fixes allowed_ends inner end
    → leg fixes end inner < value

-- and a single place has an end that is one less far
pub record IsFarthest (fixes : List Fix) (allowed_ends : Ends) (of_ : ℕ × ℕ)
    (found : Far) : Type 0 where
  pub above : IsBeyond fixes allowed_ends of_ found.value
  pub reached : IsReachedBy (leg fixes) fixes allowed_ends of_ found
  pub limited : found.value ≤ 2 ^ 40
