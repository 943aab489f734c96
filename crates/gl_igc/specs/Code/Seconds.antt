-- The own seconds of used fixes.
use Rattle.std.specs.Prelude.{◌≡◌, ℕ, ◌<◌, ◌≤◌, List, [], ◌∷◌, length, slice_get, IsTrue, Option, None, Some, option_map, ℤ, pos, ◌≤ℤ◌, ◌<ℤ◌}
use Rattle.gl_igc.specs.Reading.{most_fixes}
use Rattle.gl_igc.specs.UsedFixes.{seconds_limit}
use Rattle.gl_igc.specs.Seconds.{is_rising}

-- the last second
unfoldable pub last_second : List ℤ → Option ℤ
last_second [] = None
last_second (second ∷ []) = Some second
last_second (second ∷ next ∷ seconds) = last_second (next ∷ seconds)

-- each second lies from 0 up to a limit
abbrev pub AreBelow : ℕ → List ℤ → Type 0
AreBelow limit seconds =
    (k : ℕ) (second : ℤ) → slice_get seconds k ≡ Some second
    → (pos 0 ≤ℤ second) × (second <ℤ pos limit)

-- What the code keeps of the own seconds of used fixes: there are at most 90,000, they rise, and
-- the last one is known.
pub record AreOwnSeconds (seconds : List ℤ) (last : Option ℕ) : Type 0 where
  pub few : length seconds ≤ most_fixes
  pub rising : IsTrue (is_rising seconds)
  pub latest : last_second seconds ≡ option_map pos last
  pub below : AreBelow seconds_limit seconds
  pub last_below : (own : ℕ) → last ≡ Some own → own < seconds_limit
