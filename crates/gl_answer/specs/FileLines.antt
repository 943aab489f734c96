-- What was read of a file whose lines are asked for one by one.
use Rattle.std.specs.Prelude.{◌≡◌, ℕ, ◌≤◌, ◌+◌, ◌-◌, Bool, true, false, List, ◌++◌, length, take, Option, Some}
use Rattle.gl_desk.specs.Desk.{FilesByName, IsSeenIn, OnFile}
use Rattle.gl_proof.specs.LineReading.{IsExhausted, IsRead, unread}
use Rattle.gl_proof.specs.LineRules.{LineRules}
use Rattle.gl_answer.specs.declared.file_state.FileLines.{FileLines}

-- The first bytes of the file were read, at most so many, and these lines came of them. Where the
-- folder is told, they are those that it has under the name.
pub record HasLines {L P : Type 0} (rules : LineRules L) (IsPlace : Option L → P → Type 0)
    (folder : Option FilesByName) (name : List ℕ) (most : ℕ) (text : List ℕ) (said : List L)
    (lines : FileLines P) : Type 0 where
  pub read : IsRead rules IsPlace text said lines.reader
  pub counted : lines.count ≡ length text
  pub fits : length text ≤ most
  pub so_far : OnFile folder name
      (λ file. (text ≡ take lines.count file) × (lines.count ≤ length file))

-- the whole file was read, and no line more came of it
pub record HasAllLines {L P : Type 0} (rules : LineRules L) (IsPlace : Option L → P → Type 0)
    (ends : P → Bool) (folder : Option FilesByName) (name : List ℕ) (most : ℕ) (said : List L)
    (lines : FileLines P) : Type 0 where
  pub text : List ℕ
  pub lines_are : HasLines rules IsPlace folder name most text said lines
  pub seen : IsSeenIn folder name (Some text)
  pub exhausted : IsExhausted ends lines.reader

-- a piece more was read, or there is none
abbrev pub Feeds : {L P : Type 0} → LineRules L → (Option L → P → Type 0) → Option FilesByName
    → List ℕ → ℕ → List ℕ → List L → FileLines P → Bool → Type 0
Feeds rules IsPlace folder name most text said lines true =
    (piece : List ℕ) × HasLines rules IsPlace folder name most (text ++ piece) said lines
Feeds rules IsPlace folder name most text said lines false =
    HasLines rules IsPlace folder name most text said lines × IsSeenIn folder name (Some text)

-- how many bytes of a file of at most so many may still give a line
abbrev pub left_of : {P : Type 0} → ℕ → FileLines P → ℕ
left_of most lines = (most + 1 - lines.count) + length (unread lines.reader)
