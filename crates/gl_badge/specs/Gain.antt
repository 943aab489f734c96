-- The gain of height: two fixes in time order, worth the metres by which the second is higher than
-- the first.
use Rattle.std.specs.Prelude.{◌≡◌, ℕ, ◌≤◌, true, false, List, [], ◌∷◌, length, slice_get, Some, ℤ, pos, ◌-ℤ◌, unsigned_abs}
use Rattle.std.specs.Int.{int_max}
use Rattle.gl_igc.specs.declared.fix.Fix.{Fix}
use Rattle.gl_goal.specs.Box.{Box}
use Rattle.gl_goal.specs.Chain.{fixes_at, hulls_of, last_of}
use Rattle.gl_goal.specs.Free.{numbers_from}
use Rattle.gl_goal.specs.Goal.{Goal}

-- how far the second altitude is above the first, in metres, and 0 where it isn't above it
unfoldable pub rise : ℤ → ℤ → ℕ
rise low high = unsigned_abs (int_max (pos 0) (high -ℤ low))

-- how far the last of some fixes is above the first
abbrev pub gain_over : List Fix → ℕ
gain_over [] = 0
gain_over (fix ∷ fixes) = rise fix.alt (last_of fix fixes).alt

-- the most that fixes in these boxes can gain: from the lowest altitude of the first box to the
-- highest of the last
abbrev pub greatest_gain : List Box → ℕ
greatest_gain [] = 0
greatest_gain (box ∷ boxes) = rise box.alt.0 (last_of box boxes).alt.1

-- two axes, each with the numbers of so many fixes
abbrev pub two_axes : ℕ → List (List ℕ)
two_axes count = let all = numbers_from 0 count in all ∷ all ∷ []

-- The goal of the gain of height over all of some fixes. Any two fixes in time order are allowed,
-- no cell is shut, and the bound of a cell is the greatest gain of its hulls.
unfoldable pub gain_goal : List Fix → Goal
gain_goal fixes = record {
  axes = two_axes (length fixes);
  allows = λ numbers. true;
  worth = λ numbers. gain_over (fixes_at fixes numbers);
  shut = λ cell. false;
  bound = λ cell. greatest_gain (hulls_of fixes (two_axes (length fixes)) cell);
}

-- a gain of height between two of some fixes: from one fix to itself or to a later one, as far as
-- that is higher
pub record IsGain (fixes : List Fix) (metres : ℕ) : Type 0 where
  pub from : ℕ
  pub to : ℕ
  pub in_order : from ≤ to
  pub low : Fix
  pub high : Fix
  pub from_is : slice_get fixes from ≡ Some low
  pub to_is : slice_get fixes to ≡ Some high
  pub gained : metres ≡ rise low.alt high.alt

-- the greatest gain of height between two of some fixes
pub record IsGreatestGain (fixes : List Fix) (metres : ℕ) : Type 0 where
  pub reached : IsGain fixes metres
  pub greatest : (other : ℕ) → IsGain fixes other → other ≤ metres
