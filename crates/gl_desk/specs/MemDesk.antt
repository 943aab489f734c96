use Rattle.std.specs.Prelude.{◌≡◌, ◌+◌, ◌-◌, ◌^◌, ◌<◌, ℕ, min, List, [], ◌∷◌, ◌++◌, Bool, true, not, ◌&&◌, Option, None, Some, IsSome, option_map, unwrap_or, Result, Ok, Err, All, Any, Contains, Vec}
use Rattle.std.specs.List.{list_any}
use Rattle.std.specs.Str.{bytes_eq}
use Rattle.std.specs.BTreeMap.{get, BTreeMap}
use Rattle.std.specs.Ordering.{nat_cmp}
use Rattle.std.specs.Cmp.Lexicographic.{slice_cmp}
use Rattle.std.specs.declared.alloc.Global.{Global}
use Rattle.gl_desk.specs.declared.calls.Calls.{Calls}
use Rattle.gl_desk.specs.declared.mem.MemDesk.{MemDesk}
use Rattle.gl_desk.specs.declared.error.DeskError.{DeskError}
use Rattle.gl_desk.specs.declared.error.DeskError.TheVariants.{Failed, Memory}
use Rattle.gl_desk.specs.Desk.{FilesByName, AppendedByName, Told}

-- a file in memory: the bytes that it was given with, and those that were appended
abbrev pub StoredFile : Type 0
StoredFile = List ℕ × List ℕ

-- the files of a folder in memory, by their names
abbrev pub StoredFiles : Type 0
StoredFiles = BTreeMap (List ℕ) StoredFile

-- no two of the names are one
abbrev pub all_differ : List (List ℕ) → Bool
all_differ [] = true
all_differ (name ∷ names) = not (list_any (bytes_eq name) names) && all_differ names

-- the file with this name, if there is one
abbrev pub stored : StoredFiles → List ℕ → Option StoredFile
stored files name = get (slice_cmp nat_cmp) files name

-- what a file holds
abbrev pub bytes_of : StoredFile → List ℕ
bytes_of file = file.0 ++ file.1

-- what was appended to a file, which may not be there
abbrev pub appended_to : Option StoredFile → List ℕ
appended_to None = []
appended_to (Some file) = file.1

-- the bytes of the file with each name
unfoldable pub files_in : StoredFiles → FilesByName
files_in files name = option_map bytes_of (stored files name)

-- what was appended under each name
unfoldable pub outputs_in : StoredFiles → AppendedByName
outputs_in files name = appended_to (stored files name)

-- the next call is one that fails; after the call with the last number none is
abbrev pub IsNextDue : Calls → Type 0
IsNextDue calls = (calls.made < 2 ^ 64 - 1) × Contains calls.failing.items (calls.made + 1)

-- the desk's files, what was said to it, and what was appended under each name
abbrev pub files_of : MemDesk → FilesByName
files_of desk = files_in desk.files

abbrev pub said_to : MemDesk → List ℕ
said_to desk = desk.said.items

abbrev pub outputs_of : MemDesk → AppendedByName
outputs_of desk = outputs_in desk.files

-- how many of the desk's calls failed, how many were made, and which are to fail
abbrev pub faults_of : MemDesk → ℕ
faults_of desk = desk.calls.failed

abbrev pub calls_of : MemDesk → ℕ
calls_of desk = desk.calls.made

abbrev pub failing_of : MemDesk → List ℕ
failing_of desk = desk.calls.failing.items

-- the most bytes that one call reads
abbrev pub most_of : MemDesk → ℕ
most_of desk = desk.limit.most

-- a desk in memory tells everything
abbrev pub told_by : MemDesk → Told
told_by desk = record {
  folder = Some (files_of desk);
  said = Some (said_to desk);
  outputs = Some (outputs_of desk);
  faults = faults_of desk;
}

-- the desk's next call is one that is told to fail
abbrev pub IsDue : MemDesk → Type 0
IsDue desk = IsNextDue desk.calls

-- a call was counted, and those that are to fail are the same, as is the most that one call reads
pub record CountsCall (old new : MemDesk) : Type 0 where
  pub calls : calls_of new ≡ min (calls_of old + 1) (2 ^ 64 - 1)
  pub failing : failing_of new ≡ failing_of old
  pub most : most_of new ≡ most_of old

-- `Failed` is answered only where the call was due to fail, and counted; where it was due, nothing
-- but want of memory is answered in its place
abbrev pub FailsWhenDue : {X : Type 0} → Result X DeskError → MemDesk → MemDesk → Type 0
FailsWhenDue (Ok x) old new = (¬ IsDue old) × (faults_of new ≡ faults_of old)
FailsWhenDue (Err Failed) old new = IsDue old × (faults_of new ≡ faults_of old + 1)
FailsWhenDue (Err Memory) old new = faults_of new ≡ faults_of old

-- the part was appended under the name; a file that isn't there is made
pub record AppendsUnder (old new : MemDesk) (name part : List ℕ) : Type 0 where
  pub file : files_of new name ≡ Some (unwrap_or (files_of old name) [] ++ part)
  pub output : outputs_of new name ≡ outputs_of old name ++ part

-- nothing changed under the name
pub record IsSameUnder (old new : MemDesk) (name : List ℕ) : Type 0 where
  pub file : files_of new name ≡ files_of old name
  pub output : outputs_of new name ≡ outputs_of old name

-- the folder has these files and no other
pub record HoldsFiles (files : List (List ℕ × Vec ℕ Global)) (folder : FilesByName) : Type 0 where
  pub each : All (λ file. folder file.0 ≡ Some file.1.items) files
  pub only : (name : List ℕ) → IsSome (folder name) → Any (λ file. file.0 ≡ name) files
