-- The recordings of a folder, and the entrants and the day that they give.
use Rattle.std.specs.Prelude.{◌≡◌, ℕ, nat_le, ◌&&◌, if◌then◌else◌, length, List, [], ◌∷◌, ◌++◌, filter, Bool, true, false, Option, None, Some, is_some, option_and_then, unwrap_or, IsPermutation, Result, Ok, Err, ℤ, ⊤}
use Rattle.std.specs.Cmp.Lexicographic.{slice_cmp}
use Rattle.std.specs.List.{find, list_all, list_any}
use Rattle.std.specs.List.Sorted.{IsSorted}
use Rattle.std.specs.Option.{option_or}
use Rattle.std.specs.Ordering.{int_eq, nat_cmp}
use Rattle.gl_desk.specs.Desk.{FilesByName, IsSeenIn, ListsNames}
use Rattle.gl_desk.specs.Limits.{most_bytes}
use Rattle.gl_igc.specs.Reading.{Reading, recording_of}
use Rattle.gl_igc.specs.declared.error.IgcError.{IgcError}
use Rattle.gl_text.specs.Forms.{is_file_name, is_text}
use Rattle.gl_draft.specs.Heading.{is_igc, number_by_file, pilot_by_file, said_in}
use Rattle.gl_draft.specs.declared.entrant.Entrant.{Entrant}
use Rattle.gl_draft.specs.declared.heading.Said.TheVariants as said
use Rattle.gl_draft.specs.declared.recording.Recording.{Recording}

-- a file of the folder is a recording that a task file can name
abbrev pub is_taken : List ℕ → Bool
is_taken name = is_igc name && is_file_name name

-- what is read of a file: nothing where it has too many bytes
abbrev pub read_part : List ℕ → List ℕ
read_part bytes = if nat_le (length bytes) most_bytes then bytes else []

-- the day of what a recording reads as, if it reads
abbrev pub day_in : Result Reading IgcError → Option ℤ
day_in (Ok reading) = Some reading.date
day_in (Err error) = None

-- a recording has the name of a file of the folder, and what its text says: the number, the pilot
-- and the day
pub record IsRecordingOf (folder : Option FilesByName) (file : List ℕ)
    (recording : Recording) : Type 0 where
  pub bytes : List ℕ
  pub seen : IsSeenIn folder file (Some bytes)
  pub file_is : recording.file ≡ file
  pub number : recording.number ≡ said_in said.Number (read_part bytes)
  pub pilot : recording.pilot ≡ said_in said.Pilot (read_part bytes)
  pub day : recording.day ≡ day_in (recording_of (read_part bytes) None)

-- as many things as others, each of which belongs to the one in its place
abbrev pub Pairwise : {A B : Type 0} → (A → B → Type 0) → List A → List B → Type 0
Pairwise R [] [] = ⊤
Pairwise R [] (y ∷ ys) = ⊥
Pairwise R (x ∷ xs) [] = ⊥
Pairwise R (x ∷ xs) (y ∷ ys) = R x y × Pairwise R xs ys

-- the recordings of a folder, each once, in the order of their names
pub record AreRecordingsOf (folder : Option FilesByName)
    (recordings : List Recording) : Type 0 where
  pub listed : List (List ℕ)
  pub names : List (List ℕ)
  pub lists : ListsNames folder listed
  pub same : IsPermutation listed names
  pub sorted : IsSorted (slice_cmp nat_cmp) names
  pub read : Pairwise (IsRecordingOf folder) (filter is_taken names) recordings

-- a recording is of a day, as far as its day is known
abbrev pub is_of_day : ℤ → Option ℤ → Bool
is_of_day day None = true
is_of_day day (Some other) = int_eq other day

-- a day, where all recordings are of it
abbrev pub day_of_all : List Recording → ℤ → Option ℤ
day_of_all recordings day =
    if list_all (λ (r : Recording). is_of_day day r.day) recordings then Some day else None

-- the first day that is known, and the day that all recordings have whose day is known
abbrev pub first_day : List Recording → Option ℤ
first_day recordings =
    option_and_then (λ (r : Recording). r.day) (find (λ (r : Recording). is_some r.day) recordings)

abbrev pub common_day : List Recording → Option ℤ
common_day recordings = option_and_then (day_of_all recordings) (first_day recordings)

-- an entrant has a number
abbrev pub has_number : List ℕ → Option (List ℕ) → Bool
has_number number None = false
has_number number (Some other) = is_text other number

-- a number, unless one of some entrants has it
abbrev pub unless_taken : List Entrant → List ℕ → Option (List ℕ)
unless_taken before number =
    if list_any (λ (e : Entrant). has_number number e.number) before then None else Some number

-- the entrant of a recording behind others. Its number and its name are those that the recording
-- says, or else those of its file's name; a number that one before it has is left to fill in.
abbrev pub entrant_behind : List Entrant → Recording → Entrant
entrant_behind before r = record {
  number = option_and_then (unless_taken before) (option_or r.number (number_by_file r.file));
  name = unwrap_or r.pilot (pilot_by_file r.file);
  file = r.file;
}

-- some entrants, and behind them those of recordings
abbrev pub entrants_behind : List Entrant → List Recording → List Entrant
entrants_behind before [] = before
entrants_behind before (r ∷ rs) = entrants_behind (before ++ entrant_behind before r ∷ []) rs

abbrev pub entrants_of : List Recording → List Entrant
entrants_of recordings = entrants_behind [] recordings
