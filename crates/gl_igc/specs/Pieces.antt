-- What a reader stands for that takes the text of a recording piece by piece.
use Rattle.std.specs.Prelude.{◌≡◌, ℕ, List, ◌++◌, true, false, Option, ℤ}
use Rattle.gl_text.specs.Lines.{lines_of}
use Rattle.gl_igc.specs.Progress.{StandsFor}
use Rattle.gl_igc.specs.declared.igc_reader.IgcReader.{IgcReader}

-- A text is cut into its first lines and a rest: whatever follows the text, its lines are these,
-- and
-- then those of the rest and of what follows.
abbrev pub IsCut : List ℕ → List (List ℕ) → List ℕ → Type 0
IsCut text lines rest = (more : List ℕ) → lines_of (text ++ more) ≡ lines ++ lines_of (rest ++ more)

-- The reader stands for a text: its progress stands for the first lines of the text, what it keeps
-- beside is the rest, and no piece was lost.
pub record StandsForText (text : List ℕ) (reader : IgcReader) : Type 0 where
  pub lines : List (List ℕ)
  pub read : StandsFor lines reader.progress
  pub cut : IsCut text lines reader.rest.items
  pub whole : reader.has_failed ≡ false

-- the task day that the reader was given
abbrev pub task_day_of : IgcReader → Option ℤ
task_day_of reader = reader.task_day

-- a piece was lost for want of memory
abbrev pub HasFailed : IgcReader → Type 0
HasFailed reader = reader.has_failed ≡ true
