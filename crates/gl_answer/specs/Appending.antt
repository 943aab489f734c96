-- What was appended to a file since some time.
use Rattle.std.specs.Prelude.{◌≡◌, ◌≢◌, ℕ, ◌<◌, Bool, true, List, [], ◌++◌, length, Option, None, Some, take}
use Rattle.gl_desk.specs.Answers.{CountsFaults}
use Rattle.gl_desk.specs.Desk.{FileTakes, OutputGrows, Told, file_of, output_of}
use Rattle.gl_desk.specs.declared.error.DeskError.{DeskError}
use Rattle.gl_proof.specs.Kept.{left_if}

-- the text was appended to the target, and nothing to any other file
abbrev pub IsAppended : Option (List ℕ) → List ℕ → Told → Told → Type 0
IsAppended None text before after =
    (text ≡ []) × (after.folder ≡ before.folder) × (after.outputs ≡ before.outputs)
IsAppended (Some name) text before after =
    OutputGrows before.outputs after.outputs name text
    × FileTakes before.folder after.folder name text
    × ((other : List ℕ) → other ≢ name
    → (output_of after.outputs other ≡ output_of before.outputs other)
    × (file_of after.folder other ≡ file_of before.folder other))

-- the text was appended to the target and nothing else changed; no call of the desk failed
pub record HasWritten (target : Option (List ℕ)) (text : List ℕ) (before now : Told) : Type 0 where
  pub appended : IsAppended target text before now
  pub said : now.said ≡ before.said
  pub faults : now.faults ≡ before.faults

-- the same, and where nothing is appended no file is made
pub record HasGiven (target : Option (List ℕ)) (text : List ℕ) (before now : Told) : Type 0 where
  pub written : HasWritten target text before now
  pub untouched : text ≡ [] → (now.folder ≡ before.folder) × (now.outputs ≡ before.outputs)

-- the text was appended to the file and nothing else changed; no call of the desk failed
abbrev pub HasAppended : List ℕ → List ℕ → Told → Told → Type 0
HasAppended file text before now = HasWritten (Some file) text before now

-- a first part of the text was appended to the file and nothing else changed; then the run was
-- stopped
pub record HasAppendedPart (file text : List ℕ) (before now : Told) (stop : DeskError)
    : Type 0 where
  pub count : ℕ
  pub appended : IsAppended (Some file) (take count text) before now
  pub said : now.said ≡ before.said
  pub faults : CountsFaults (Some stop) before.faults now.faults

-- a first part of a text, at least a byte if there may be more, was appended to the file and nothing
-- else changed; the rest is left
pub record Appends (file whole rest : List ℕ) (before now : Told) (more : Bool) : Type 0 where
  pub first : List ℕ
  pub appended : HasAppended file first before now
  pub parts : whole ≡ first ++ left_if more rest
  pub some : more ≡ true → 0 < length first
