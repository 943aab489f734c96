-- The words of the commands of a day.
use Rattle.std.specs.Prelude.{ℕ, Bool, ◌&&◌, nat_le, if◌then◌else◌, List, [], ◌∷◌, slice_index_or, Option, None, Some, codes, option_map}
use Rattle.std.specs.Fmt.{decimal}
use Rattle.std.specs.Option.{option_or}
use Rattle.std.specs.Str.Parse.{digits_value}
use Rattle.gl_text.specs.Forms.{is_text, is_file_name}

-- the names of the two files of a day
pub record DayNames : Type 0 where
  pub task : List ℕ
  pub proof : List ℕ

-- a command of a day and what it is given
pub data DayCommand : Type 0 where
  Score : DayNames → DayCommand
  Check : DayNames → DayCommand

-- the names of a day, where both are those of files
abbrev pub day_names : List ℕ → List ℕ → Option DayNames
day_names task proof =
    if is_file_name task && is_file_name proof
    then Some (record { task = task; proof = proof }) else None

-- a word that writes a number from 1 to 16, without a sign and a leading zero
abbrev pub is_worker_count : List ℕ → Bool
is_worker_count word =
    let number = digits_value 10 word in
    is_text word (decimal number) && nat_le 1 number && nat_le number 16

-- `score TASK PROOF WORKERS`, where the number of workers is 1 to 16
abbrev pub score_form : List (List ℕ) → Option DayNames
score_form [] = None
score_form (word ∷ []) = None
score_form (word ∷ task ∷ []) = None
score_form (word ∷ task ∷ proof ∷ []) = None
score_form (word ∷ task ∷ proof ∷ workers ∷ []) =
    if is_text word (codes "score") && is_worker_count workers
    then day_names task proof else None
score_form (word ∷ task ∷ proof ∷ workers ∷ more ∷ words) = None

-- `check TASK PROOF`
abbrev pub check_form : List (List ℕ) → Option DayNames
check_form [] = None
check_form (word ∷ []) = None
check_form (word ∷ task ∷ []) = None
check_form (word ∷ task ∷ proof ∷ []) =
    if is_text word (codes "check") then day_names task proof else None
check_form (word ∷ task ∷ proof ∷ more ∷ words) = None

-- the command of a day that the words are a form of, if they are one
abbrev pub day_command_of : List (List ℕ) → Option DayCommand
day_command_of words =
    option_or (option_map Score (score_form words)) (option_map Check (check_form words))

-- how many workers the words of `score` name
abbrev pub named_workers : Option DayNames → List (List ℕ) → ℕ
named_workers None words = 1
named_workers (Some names) words = digits_value 10 (slice_index_or words 3 [])

-- how many workers the words let work side by side: 1, unless they are of `score`
abbrev pub workers_of : List (List ℕ) → ℕ
workers_of words = named_workers (score_form words) words
