-- A way round: its legs, and how far it can reach.
use Rattle.std.specs.Prelude.{◌≡◌, ℕ, ◌<◌, List, length, Some, slice_get, slice_index, [], ◌∷◌}
use Rattle.gl_igc.specs.declared.fix.Fix.{Fix}
use Rattle.gl_goal.specs.Near.{IsNear}
use Rattle.gl_goal.specs.Reach.{IsReach}
use Rattle.gl_goal.specs.declared.round.Round.{Round}

-- the reach of each place
pub record AreReaches (fixes : List Fix) (closing : ℕ) (reaches : List ℕ) : Type 0 where
  pub sized : length reaches ≡ length fixes
  pub each : (place : ℕ) → place < length fixes
      → IsReach fixes closing place (slice_index reaches place)

-- no fix behind the place `end` is at most `closing` centimetres from the fix at another place
abbrev pub IsNoneBehind : List Fix → ℕ → ℕ → ℕ → Type 0
IsNoneBehind fixes closing end place =
    (fix : Fix) → slice_get fixes place ≡ Some fix
    → (later : ℕ) → end < later → ¬ IsNear fixes fix.at closing later

-- the three legs of a way round, in their order
abbrev pub legs_of : Round → List ℕ
legs_of round = round.first ∷ round.second ∷ round.third ∷ []
