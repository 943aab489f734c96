-- What stewards charge for a flight.
use Rattle.std.specs.Prelude.{◌≡◌, ℕ, min, List, fold, sum}
use Rattle.gl_igc.specs.declared.fix.Fix.{Fix}
use Rattle.gl_task.specs.declared.task.LocalRules.{LocalRules}

-- The rules of a steward are the same before and after: the list that it opens a flight with, what
-- a fix makes of a list, and what is owed for a list.
pub record KeepsRules (opening reopening : LocalRules → List ℕ)
    (fed refed : List ℕ → Fix → List ℕ) (owed reowed : List ℕ → ℕ) : Type 0 where
  pub opening_kept : (rules : LocalRules) → reopening rules ≡ opening rules
  pub fed_kept : (list : List ℕ) (fix : Fix) → refed list fix ≡ fed list fix
  pub owed_kept : (list : List ℕ) → reowed list ≡ owed list

-- the list that is held after the fixes of a flight
abbrev pub held_after : List ℕ → (List ℕ → Fix → List ℕ) → List Fix → List ℕ
held_after opening fed fixes = fold fed opening fixes

-- the penalty of a flight: the sum of what is owed, at most 1,000 points
abbrev pub penalty : List ℕ → ℕ
penalty owed = min 1_000 (sum owed)
