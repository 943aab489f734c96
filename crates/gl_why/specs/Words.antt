-- What the words ask for.
use Rattle.std.specs.Prelude.{ℕ, nat_eq, nat_le, not, ◌&&◌, codes, is_some, Bool, if◌then◌else◌, List, [], ◌∷◌, Option, None, Some}
use Rattle.std.specs.Fmt.{decimal}
use Rattle.std.specs.List.{list_all, starts_with}
use Rattle.std.specs.Str.Parse.{digits_value}
use Rattle.gl_text.specs.Forms.{is_file_name, is_number, is_text}

-- What is asked: the reasons of all entrants of a task file, or of the one with a number; or the
-- fixes of a file that have the numbers which some words write.
pub data Question : Type 0 where
  All : List ℕ → Question
  One : List ℕ → List ℕ → Question
  Fixes : List ℕ → List (List ℕ) → Question

-- the name of a file, and no option
abbrev pub is_file : List ℕ → Bool
is_file word = is_file_name word && not (starts_with nat_eq word (codes "--"))

-- the number below a million that a word writes, without a leading zero
abbrev pub number_of : List ℕ → Option ℕ
number_of word =
    let number = digits_value 10 word in
    if is_text word (decimal number) && nat_le number 999_999 then Some number else None

abbrev pub is_numeral : List ℕ → Bool
is_numeral word = is_some (number_of word)

-- what is asked of a file by some words that write numbers
abbrev pub fixes_after : List ℕ → List (List ℕ) → Option Question
fixes_after file numbers =
    if is_file file && list_all is_numeral numbers then Some (Fixes file numbers) else None

-- what is asked of all entrants of a task file, or of one
abbrev pub all_of : List ℕ → Option Question
all_of file = if is_file file then Some (All file) else None

abbrev pub one_of : List ℕ → List ℕ → Option Question
one_of file number = if is_file file && is_number number then Some (One file number) else None

-- `TASK`, `TASK NUMBER`, or `fix FILE N ..` with at least one number
abbrev pub question_of : List (List ℕ) → Option Question
question_of [] = None
question_of (file ∷ []) = all_of file
question_of (file ∷ number ∷ []) = one_of file number
question_of (word ∷ file ∷ number ∷ numbers) =
    if is_text word (codes "fix") then fixes_after file (number ∷ numbers) else None

-- what the words ask for, where they are of the form
abbrev pub words_of : List (List ℕ) → Option Question
words_of [] = None
words_of (word ∷ words) = if is_text word (codes "why") then question_of words else None
