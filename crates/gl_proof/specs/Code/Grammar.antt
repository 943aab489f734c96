-- What makes a text one of its lines alone.
use Rattle.std.specs.Prelude.{◌≡◌, ℕ, false, List, ◌++◌}
use Rattle.gl_proof.specs.Grammar.{Grammar, ended_line}

-- Two lines that stand at the front of one text are the same line, and nothing may stand behind the
-- line that ends a text.
pub record IsPlain {L : Type 0} (grammar : Grammar L) : Type 0 where
  pub once : (line other : L) (rest more : List ℕ) → grammar.IsLine line → grammar.IsLine other
      → ended_line grammar line ++ rest ≡ ended_line grammar other ++ more
      → (line ≡ other) × (rest ≡ more)
  pub ends : (line : L) → grammar.may_follow grammar.last line ≡ false
