-- The right answer of `demo`.
use Rattle.std.specs.Prelude.{◌≡◌, ℕ, List, [], ◌∷◌, ◌++◌, length, Option, Some, IsSome, All, Any, codes, ⊤}
use Rattle.std.specs.Fmt.{decimal}
use Rattle.gl_demo.specs.Day.{generated_files}
use Rattle.gl_demo.specs.Task.{task_file_name}
use Rattle.gl_desk.specs.Desk.{FilesByName}
use Rattle.gl_proof.specs.Claim.{Statement}
use Rattle.gl_proof.specs.Text.{IsTextOf}
use Rattle.gl_proof.specs.declared.version.Version.TheVariants.{Two}
use Rattle.gl_day.specs.Flight.{StewardRules}
use Rattle.gl_words.specs.DayWords.{DayNames}
use Rattle.gl_day_files.specs.declared.day_files.DayFiles.{DayFiles}
use Rattle.gl_answer.specs.declared.status.Status.TheVariants.{Done}
use Rattle.gl_answer.specs.Answer.{Answer, saying}
use Rattle.gl_answer.specs.Promise.{IsTold, Promise, reading}
use Rattle.gl_day_claims.specs.Score.{IsDayScored, IsScoreDay}

-- the folder has these files, and no other
pub record HasJust (files : List (List ℕ × List ℕ)) (folder : FilesByName) : Type 0 where
  pub each : All (λ file. folder file.0 ≡ Some file.1) files
  pub only : (name : List ℕ) → IsSome (folder name) → Any (λ file. file.0 ≡ name) files

-- the task of a generated day, and a name for its proof
abbrev pub demo_names : DayNames
demo_names = record { task = task_file_name; proof = codes "PROOF.TXT" }

-- the line behind the sheet, with the number of claims
unfoldable pub claims_line : ℕ → List ℕ
claims_line claims = codes "CLAIMS " ++ decimal claims ++ codes " ACCEPTED" ++ 10 ∷ []

-- the text of a proof has so many claims
abbrev pub IsCountOf : List ℕ → ℕ → Type 0
IsCountOf text claims =
    (statements : List Statement) × IsTextOf Two text statements × (claims ≡ length statements)

-- The answer says the sheet of a day as `score` does, and how many claims the proof has that it
-- appends there; nothing is appended here.
pub record IsDayAnnounced (folder : FilesByName) (day : DayFiles) (stewards : List StewardRules)
    (answer : Answer) : Type 0 where
  pub scored : Answer
  pub is : IsDayScored (Some folder) day stewards scored
  pub claims : ℕ
  pub counted : IsCountOf scored.appended claims
  pub says : answer ≡ saying Done (scored.said ++ claims_line claims)

-- The answer of `demo`: what it announces of the day in the folder of the generated files. They
-- always pass the tests of `score`.
abbrev pub IsDemo : List StewardRules → ℕ → Answer → Type 0
IsDemo stewards number answer =
    (folder : FilesByName) × HasJust (generated_files number) folder
    × (day : DayFiles) × IsScoreDay (Some folder) demo_names day
    × IsDayAnnounced folder day stewards answer

-- the promise of `demo`: a generated day passes its tests, whatever the folder has
abbrev pub demo_promise : Option FilesByName → List StewardRules → ℕ → Promise
demo_promise folder stewards number =
    reading (IsDemo stewards number) (IsTold folder (λ files. ⊤))
