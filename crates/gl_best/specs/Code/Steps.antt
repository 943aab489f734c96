-- What the code changes of the view of a seat by a look, and by a total that it raises.
use Rattle.std.specs.Prelude.{◌≡◌, ℕ, ◌≤◌, max, []}
use Rattle.gl_best.specs.declared.rule.View.{View}

-- the seat has seen what was found, no less than before
abbrev pub Looked : View → ℕ → View → Type 0
Looked before found after =
    (before.seen ≤ found)
    × (after ≡ record { seen = found; raised = before.raised; numbers = before.numbers })

-- a number was raised, where another was found
abbrev pub Raised : ℕ → View → ℕ → View → Type 0
Raised number before found after =
    (before.seen ≤ found)
    × (after
    ≡ record {
      seen = max found number;
      raised = max before.raised number;
      numbers = before.numbers;
    })

-- what is left of the other
abbrev pub spent : View
spent = record { seen = 0; raised = 0; numbers = [] }
