-- The altitudes of the first fix, in ranges that a search goes through one by one: a range at which
-- it stopped is split in two.
use Rattle.std.specs.Prelude.{ℕ, suc, ◌+◌, ◌*◌, ◌<◌, ◌⊎◌, ℤ, ◌+ℤ◌, ◌-ℤ◌, ◌<ℤ◌, ◌≤ℤ◌, List, length, Any, Option, MatchOption, unsigned_abs}
use Rattle.gl_igc.specs.declared.fix.Fix.{Fix}
use Rattle.gl_goal.specs.Box.{IsBetween}
use Rattle.gl_free.specs.declared.altitudes.Altitudes.{Altitudes}
use Rattle.gl_free.specs.declared.pair.Pair.{Pair}
use Rattle.gl_free.specs.Code.Arms.{arm_length}
use Rattle.gl_free.specs.Code.Choices.{AreInOrder}
use Rattle.gl_free.specs.Code.Places.{altitude_at}

-- a legal choice that is worth more than what was found
pub record IsBetterChoice (fixes : List Fix) (loss : ℤ) (found : ℕ) : Type 0 where
  pub first : ℕ
  pub second : ℕ
  pub third : ℕ
  pub fourth : ℕ
  pub last : ℕ
  pub order : AreInOrder (length fixes) first second third fourth last
  pub within : (altitude_at fixes first -ℤ altitude_at fixes last) ≤ℤ loss
  pub more : found < arm_length fixes third second first + arm_length fixes third fourth last

-- an altitude is in a range
abbrev pub IsIn : Altitudes → ℤ → Type 0
IsIn range altitude = IsBetween (range.lowest, range.highest) altitude

-- the first of a pair is in the range, and the last one is too low for it, but not for the lowest
-- altitude there
pub record IsLost (fixes : List Fix) (loss : ℤ) (range : Altitudes) (pair : Pair) : Type 0 where
  pub first_within : pair.first < length fixes
  pub last_within : pair.last < length fixes
  pub first_in : IsIn range (altitude_at fixes pair.first)
  pub low : loss <ℤ (altitude_at fixes pair.first -ℤ altitude_at fixes pair.last)
  pub reached : range.lowest ≤ℤ (altitude_at fixes pair.last +ℤ loss)

-- the first fix of each better choice has its altitude in one of some ranges
abbrev pub AreLeft : List Fix → ℤ → ℕ → List Altitudes → Type 0
AreLeft fixes loss found ranges =
    (better : IsBetterChoice fixes loss found)
    → Any (λ range. IsIn range (altitude_at fixes better.first)) ranges

-- a run over a range came to an end: no better choice has its first fix there, or a pair is lost
abbrev pub IsRun : List Fix → ℤ → Altitudes → ℕ → Option Pair → Type 0
IsRun fixes loss range found stop =
    MatchOption stop
    ((better : IsBetterChoice fixes loss found) → ¬ IsIn range (altitude_at fixes better.first))
    (IsLost fixes loss range)

-- how often a range can be split at most, with one more
abbrev pub turns_of : Altitudes → ℕ
turns_of range = suc (2 * unsigned_abs (range.highest -ℤ range.lowest))

-- two ranges together have the altitudes of another, and can be split less often
pub record IsSplit (range lower upper : Altitudes) : Type 0 where
  pub parts : (altitude : ℤ) → IsIn range altitude → IsIn lower altitude ⊎ IsIn upper altitude
  pub less : turns_of lower + turns_of upper < turns_of range
