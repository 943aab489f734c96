use Rattle.std.specs.Prelude.{◌≡◌, ◌≢◌, ℕ, ◌+◌, ◌-◌, ◌<◌, ◌≤◌, List, [], ◌∷◌, ◌==◌, if◌then◌else◌, map, length, slice_index}
use Rattle.std.specs.List.{onto_first}
use Rattle.std.specs.Str.Lines.{strip_carriage_return}

-- the pieces of a text that its LFs, the bytes 10, end; a last piece without LF counts where it
-- isn't empty
abbrev pub pieces_of : List ℕ → List (List ℕ)
pieces_of [] = []
pieces_of (b ∷ bs) = if b == 10 then [] ∷ pieces_of bs else onto_first b (pieces_of bs)

-- the lines of a text: its pieces, each without one CR at its end
unfoldable pub lines_of : List ℕ → List (List ℕ)
lines_of text = map strip_carriage_return (pieces_of text)

-- the line that begins at a place goes on to `next`: just past its LF, or the end of the text
pub record LineEnds (text : List ℕ) (at next : ℕ) : Type 0 where
  pub inside : (k : ℕ) → at ≤ k → k + 1 < next → slice_index text k ≢ 10
  pub ended : slice_index text (next - 1) ≢ 10 → next ≡ length text
