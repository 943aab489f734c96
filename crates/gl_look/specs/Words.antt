-- What the words ask for.
use Rattle.std.specs.Prelude.{ℕ, nat_eq, ◌&&◌, not, codes, Bool, if◌then◌else◌, List, [], ◌∷◌, Option, None, Some}
use Rattle.std.specs.List.{starts_with}
use Rattle.gl_text.specs.Forms.{is_file_name, is_text}

-- the name of a file, and no option
abbrev pub is_file : List ℕ → Bool
is_file word = is_file_name word && not (starts_with nat_eq word (codes "--"))

abbrev pub file_after : List ℕ → List ℕ → Option (List ℕ)
file_after word file = if is_text word (codes "look-over") && is_file file then Some file else None

-- the task file that the words ask to look over, where they are of the form
abbrev pub words_of : List (List ℕ) → Option (List ℕ)
words_of [] = None
words_of (word ∷ []) = None
words_of (word ∷ file ∷ []) = file_after word file
words_of (word ∷ file ∷ more ∷ rest) = None
