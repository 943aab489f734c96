-- A kind of text that is made of lines, each ended by LF.
use Rattle.std.specs.Prelude.{ℕ, Bool, List, [], ◌∷◌, ◌++◌}
use Rattle.std.specs.List.{flat_map}

-- What lines there are and how each is spelled, without its LF; what can stand in one; which line
-- may stand right behind which; the line with which a text begins, and the one that ends it.
pub record Grammar (L : Type 0) : Type 1 where
  pub spelling : L → List ℕ
  pub IsLine : L → Type 0
  pub may_follow : L → L → Bool
  pub heading : L
  pub last : L

-- a line with the LF, the byte 10, that ends it
abbrev pub ended_line : {L : Type 0} → Grammar L → L → List ℕ
ended_line grammar line = grammar.spelling line ++ 10 ∷ []

-- lines, each with its LF
abbrev pub spelled_lines : {L : Type 0} → Grammar L → List L → List ℕ
spelled_lines grammar lines = flat_map (ended_line grammar) lines
