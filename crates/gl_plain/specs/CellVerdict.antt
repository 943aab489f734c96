-- What the tests of a goal say of a cell, against the total that was found.
use Rattle.std.specs.Prelude.{◌≡◌, ℕ, ◌<◌, List, Option, Some}
use Rattle.gl_goal.specs.Goal.{Goal, IsOpen}
use Rattle.gl_goal.specs.Certificate.{IsClosedFor}
use Rattle.gl_plain.specs.declared.verdict.CellVerdict.{CellVerdict}
use Rattle.gl_plain.specs.declared.verdict.CellVerdict.TheVariants.{Closed, Open}

-- a cell that passes its tests has a bound above each total that was found
pub record Promises (goal : Goal) (total : Option ℕ) (cell : List (ℕ × ℕ))
    (bound : ℕ) : Type 0 where
  pub is_open : IsOpen goal cell
  pub is_bound : bound ≡ goal.bound cell
  pub above : (found : ℕ) → total ≡ Some found → found < bound

abbrev pub IsCellVerdict : Goal → Option ℕ → List (ℕ × ℕ) → CellVerdict → Type 0
IsCellVerdict goal total cell (Closed why) = IsClosedFor goal total cell why
IsCellVerdict goal total cell (Open bound) = Promises goal total cell bound
