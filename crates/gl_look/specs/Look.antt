-- What is remarked of the folder of a day.
use Rattle.std.specs.Prelude.{◌≡◌, ◌≢◌, ℕ, ◌++◌, IsPermutation, List, [], ◌∷◌, Option}
use Rattle.std.specs.Cmp.Lexicographic.{slice_cmp}
use Rattle.std.specs.List.Sorted.{IsSorted}
use Rattle.std.specs.Ordering.{nat_cmp}
use Rattle.toml.specs.Data.{Members}
use Rattle.gl_desk.specs.Desk.{FilesByName, ListsNames}
use Rattle.gl_task.specs.declared.task.Task.{Task}
use Rattle.gl_task_file.specs.Reading.{IsDocument, IsReadFrom, IsRefusalOf}
use Rattle.gl_task_file.specs.declared.error.TaskError.{TaskError}
use Rattle.gl_task_file.specs.declared.error.TaskError.TheVariants.{Memory}
use Rattle.gl_look.specs.Folder.{handicaps_told, shared_told, unnamed_told}
use Rattle.gl_look.specs.Flights.{AreTold, IsFileTold, IsNamedAirTold}
use Rattle.gl_look.specs.Keys.{refused_told, remark, tables_told}
use Rattle.gl_look.specs.Sights.{IsSightIn}
use Rattle.gl_look.specs.declared.sight.Sight as code
use Rattle.gl_look.specs.declared.sight.Sight.TheVariants as sight
use Rattle.gl_look.specs.declared.told.Slip.TheVariants as slip
use Rattle.gl_look.specs.declared.told.Subject.TheVariants as subject
use Rattle.gl_look.specs.declared.told.Told.{Told}

-- What is remarked of a task in a folder with these names, after other remarks: its handicaps, its
-- airspace file, entrants who share a recording, the recordings of the entrants, and those that no
-- entrant names, in the order of their names.
pub record IsTaskTold (folder : Option FilesByName) (names : List (List ℕ)) (task : Task)
    (before told : List Told) : Type 0 where
  pub air : List Told
  pub air_is : IsNamedAirTold folder names task.airspace air
  pub files : List Told
  pub files_are : AreTold (IsFileTold folder names task) task.entrants files
  pub sorted : List (List ℕ)
  pub same : IsPermutation names sorted
  pub in_order : IsSorted (slice_cmp nat_cmp) sorted
  pub is : told
      ≡ before ++ handicaps_told task.entrants ++ air ++ shared_told task.entrants ++ files
      ++ unnamed_told task.entrants sorted

-- What is remarked of the text of a task file. It is no TOML; or its keys are remarked, and then
-- that it says no task, or what is remarked of its task.
pub data IsTextTold (folder : Option FilesByName) (names : List (List ℕ)) (text : List ℕ)
    (told : List Told) : Type 0 where
  no_toml : ((file : Members) → IsDocument text file → ⊥)
      → told ≡ remark subject.Task slip.NotToml ∷ [] → IsTextTold folder names text told
  no_task : (file : Members) (wrong : TaskError) → IsDocument text file → wrong ≢ Memory
      → IsRefusalOf text wrong → told ≡ tables_told file ++ refused_told (tables_told file)
      → IsTextTold folder names text told
  some_task : (file : Members) (task : Task) → IsDocument text file → IsReadFrom text task
      → IsTaskTold folder names task (tables_told file) told → IsTextTold folder names text told

-- what is remarked of a task file of which this is seen
abbrev pub IsSightTold : Option FilesByName → List (List ℕ) → code.Sight → List Told → Type 0
IsSightTold folder names sight.Absent told = told ≡ remark subject.Task slip.NoFile ∷ []
IsSightTold folder names sight.TooLarge told = told ≡ remark subject.Task slip.TooLarge ∷ []
IsSightTold folder names (sight.Bytes bytes) told = IsTextTold folder names bytes.items told

-- what is remarked of a task file and its folder
pub record IsLook (folder : Option FilesByName) (file : List ℕ) (told : List Told) : Type 0 where
  pub names : List (List ℕ)
  pub lists : ListsNames folder names
  pub sight : code.Sight
  pub seen : IsSightIn folder names file sight
  pub is : IsSightTold folder names sight told
