-- What stays of a text that is being written.
use Rattle.std.specs.Prelude.{◌≡◌, ℕ, ◌<◌, Bool, true, false, List, [], ◌++◌, length}

-- a text still begins with what it was before
abbrev pub Keeps : List ℕ → List ℕ → Type 0
Keeps before after = (added : List ℕ) × (after ≡ before ++ added)

-- what is left of a text: nothing, unless there may be more
abbrev pub left_if : Bool → List ℕ → List ℕ
left_if true rest = rest
left_if false rest = []

-- A first part of a text is added to another one, at least a byte if there may be more, and the rest
-- is left.
pub record Writes (before after whole rest : List ℕ) (more : Bool) : Type 0 where
  pub written : List ℕ
  pub text : after ≡ before ++ written
  pub parts : whole ≡ written ++ left_if more rest
  pub some : more ≡ true → 0 < length written
