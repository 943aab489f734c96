-- What tells how far a flight reaches.
use Rattle.std.specs.Prelude.{◌≡◌, ℕ, ◌<◌, List, length, nat_le, slice_index}
use Rattle.gl_igc.specs.declared.fix.Fix.{Fix}
use Rattle.gl_goal.specs.Triangle.{closes}

-- numbers, one for each fix, tell how far a flight reaches: it closes past a place and a second one
-- just where the second isn't past the number of the first
abbrev pub TellReach : List Fix → ℕ → List ℕ → Type 0
TellReach fixes closing reaches =
    (length reaches ≡ length fixes)
    × ((a c : ℕ) → a < length fixes
    → closes fixes closing a c ≡ nat_le c (slice_index reaches a))
