-- What the words ask for.
use Rattle.std.specs.Prelude.{ℕ, nat_eq, nat_lt, ◌==◌, ◌&&◌, ◌||◌, not, codes, Bool, if◌then◌else◌, slice_index, List, [], ◌∷◌, length, Option, None, Some, option_map}
use Rattle.std.specs.List.{starts_with}
use Rattle.std.specs.Str.{byte}
use Rattle.gl_text.specs.Forms.{is_file_name, is_text}
use Rattle.gl_text.specs.Digits.{number_of}
use Rattle.gl_draft.specs.declared.words.Asks as code
use Rattle.gl_draft.specs.declared.words.Asks.TheVariants as asks

-- the number of a task: one to six digits, the first of which isn't 0
unfoldable pub number_in : List ℕ → Option ℕ
number_in word =
    if (length word == 0) || nat_lt 6 (length word) || (slice_index word 0 == byte "0") then None
    else number_of word

-- the name of a file, and no option
abbrev pub is_file : List ℕ → Bool
is_file word = is_file_name word && not (starts_with nat_eq word (codes "--"))

-- a file, and what is asked of it: a task file for its task, or the entrants that came late
abbrev pub Asked : Type 0
Asked = List ℕ × code.Asks

abbrev pub asked_of : code.Asks → List ℕ → Option Asked
asked_of what file = if is_file file then Some (file, what) else None

abbrev pub pair_of : List ℕ → List ℕ → Option Asked
pair_of file number =
    if is_file file then option_map (λ n. (file, asks.Task (Some n))) (number_in number) else None

-- the words are a SeeYou file, perhaps with the number of a task, or `--late` and a task file
abbrev pub words_of : List (List ℕ) → Option Asked
words_of [] = None
words_of (file ∷ []) = asked_of (asks.Task None) file
words_of (word ∷ other ∷ []) =
    if is_text word (codes "--late") then asked_of asks.Late other else pair_of word other
words_of (word ∷ other ∷ more ∷ rest) = None
