-- The lines that remarks are said in.
use Rattle.std.specs.Prelude.{◌≡◌, ℕ, nat_lt, ◌==◌, ◌||◌, ◌++◌, codes, if◌then◌else◌, List, [], ◌∷◌, map}
use Rattle.std.specs.Str.{byte}
use Rattle.gl_look.specs.declared.told.Subject as code
use Rattle.gl_look.specs.declared.told.Subject.TheVariants as subject
use Rattle.gl_look.specs.declared.told.Told.{Told}

-- a byte of a name, as a line shows it: a control character is a question mark
abbrev pub shown_byte : ℕ → ℕ
shown_byte c = if nat_lt c 32 || (c == 127) then byte "?" else c

abbrev pub shown : List ℕ → List ℕ
shown name = map shown_byte name

-- what a remark is about
abbrev pub subject_text : code.Subject → List ℕ
subject_text subject.Task = []
subject_text (subject.Key place key) = shown key
subject_text (subject.Entrant number) = codes "entrant " ++ shown number
subject_text (subject.File file) = shown file

-- a line names what the remark is about; where it stands and what is wrong are said in words
pub record IsLineOf (told : Told) (line : List ℕ) : Type 0 where
  pub head : List ℕ
  pub words : List ℕ
  pub is : line ≡ ((head ++ subject_text told.subject) ++ words) ++ codes "\n"

-- a text has a line for each remark, in their order, and nothing besides
abbrev pub IsTextOf : List Told → List ℕ → Type 0
IsTextOf [] text = text ≡ []
IsTextOf (told ∷ more) text =
    (line : List ℕ) × (rest : List ℕ) × IsLineOf told line × IsTextOf more rest
    × (text ≡ line ++ rest)
