-- Which fixes may end a choice, and how two legs on one side of the middle fix stand in time.
use Rattle.std.specs.Prelude.{ℕ, ◌<◌, ◌≤◌, ◌≤ℤ◌, List, length}
use Rattle.gl_igc.specs.declared.fix.Fix.{Fix}
use Rattle.gl_free.specs.declared.ends.Ends.{Ends}
use Rattle.gl_free.specs.declared.side.Side.{Side}
use Rattle.gl_free.specs.declared.side.Side.TheVariants.{Before, After}
use Rattle.gl_free.specs.Code.Places.{altitude_at}

-- a place may stand on this side of another
abbrev pub Stands : Side → ℕ → ℕ → Type 0
Stands Before place of_ = place ≤ of_
Stands After place of_ = of_ ≤ place

-- a span lies past another, so that none of its places may stand on this side of one there
abbrev pub IsPast : Side → ℕ × ℕ → ℕ × ℕ → Type 0
IsPast Before span of_ = of_.1 < span.0
IsPast After span of_ = span.1 < of_.0

-- each place of a span may stand on this side of some place of another
abbrev pub IsInside : Side → ℕ × ℕ → ℕ × ℕ → Type 0
IsInside Before span of_ = span.1 ≤ of_.1
IsInside After span of_ = of_.0 ≤ span.0

-- the fix at a place may be an end, by its altitude
pub record IsAllowed (fixes : List Fix) (ends : Ends) (place : ℕ) : Type 0 where
  pub within : place < length fixes
  pub not_lower : ends.lowest ≤ℤ altitude_at fixes place
  pub not_higher : altitude_at fixes place ≤ℤ ends.highest
