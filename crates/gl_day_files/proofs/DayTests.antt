-- The tests of the files of a day, one after the other.
use Rattle.std.proofs.Common.{◌≡◌, ◌∙◌, refl, sym, ap, subst, ℕ, inl, inr, List, ◌∷◌, Option, None, Some, Result, Ok, Err, codes}
use Rattle.std.specs.Prelude.{Contains, IsSomeAnd}
use Rattle.std.specs.Option.{option_and_then}
use Rattle.gl_airspace.specs.Airspace.{IsAirspace}
use Rattle.gl_airspace.specs.declared.volume.Airspace.{Airspace}
use Rattle.gl_desk.specs.Desk.{FilesByName, HasFile, ListsNames}
use Rattle.gl_desk.specs.Limits.{most_bytes}
use Rattle.gl_task.specs.declared.task.Task.{Task}
use Rattle.gl_task_file.specs.Keys.{said}
use Rattle.gl_task_file.specs.Reading.{IsReadFrom}
use Rattle.gl_task_file.specs.Values.{file_name}
use Rattle.gl_words.specs.DayWords.{DayNames}
use Rattle.gl_day_files.specs.declared.day_files.DayFiles.{DayFiles}
use Rattle.gl_answer.specs.declared.halt.Halt.{Halt}
use Rattle.gl_answer.specs.declared.halt.Halt.TheVariants.{Refused, Stopped}
use Rattle.gl_answer.specs.declared.refusal.Refusal.{Refusal}
use Rattle.gl_day_files.specs.DayFiles.{AirspaceText, IsAirspaceRead, IsAirspaceSeen, HasTestedDay, IsDayRead, IsScoreRead, IsScoreSeen, IsTaskSeen, TaskText, airspace_file, airspace_tests, check_tests, named_airspace, score_tests, task_tests}
use Rattle.gl_answer.specs.FileTests.{HasTested, ProofText, Reads, text_tests}
use Rattle.gl_answer.specs.ReadFiles.{HasReadFile, IsNeeded, IsUnused}
use Rattle.gl_answer.proofs.FileTests.{all_pass, fails_behind, fails_in_front, small_fails, small_passes, some_text_fails, some_text_passes}
use Rattle.gl_answer.proofs.Listing.{is_listed, not_listed, seen_some}
use Rattle.gl_desk.proofs.DeskLemmas.{HasFile-from_names}

-- what is seen of an airspace file, where the folder may be told or not
airspace_seen : (folder : Option FilesByName) (file : Option (List ℕ)) → (seen : Option (List ℕ)) × IsAirspaceSeen folder file seen
airspace_seen folder None = (None, refl)
airspace_seen folder (Some file) = seen_some folder file

-- a text that reads names the airspace file of its task
pub named_is : (text : List ℕ) (task : Task) → IsReadFrom text task → named_airspace text ≡ task.airspace
unfolding named_airspace
named_is text task is = ap (option_and_then (said (codes "airspace") file_name)) is.document.reads ∙ is.says.airspace

pub file_is : (seen : Option (List ℕ)) (task : Task) → IsSomeAnd seen (λ text. IsReadFrom text task) → airspace_file seen ≡ task.airspace
file_is None task reads = absurd reads
file_is (Some text) task reads = named_is text task reads

-- the airspace file isn't among the names
pub airspace_missing : (folder : Option FilesByName) (names : List (List ℕ)) (file : List ℕ) (halt : Halt) → ListsNames folder names → IsNeeded names file (Err halt)
    → HasTested {X = Airspace} (IsAirspaceSeen folder (Some file)) (airspace_tests (Some file)) IsAirspaceRead (Err halt)
airspace_missing folder names file (Refused refusal) lists (none, same) =
    (None, not_listed folder names file lists none, inl (ap (λ (r : Refusal). r.file) same, (refl, ap (λ (r : Refusal). r.cause) same)))
airspace_missing folder names file (Stopped stop) lists needed = tt

air_read : (seen : Option (List ℕ)) (air : Airspace) → IsSomeAnd seen (λ text. IsAirspace text air) → IsAirspaceRead seen air
air_read None air reads = absurd reads
air_read (Some text) air reads = reads

-- it is, and was read or refused
pub airspace_tested : (folder : Option FilesByName) (file : List ℕ) (result : Result Airspace Halt) → HasReadFile AirspaceText most_bytes folder file IsAirspace result
    → HasTested (IsAirspaceSeen folder (Some file)) (airspace_tests (Some file)) IsAirspaceRead result
airspace_tested folder file (Ok air) (seen, is, passes, reads) =
    (seen, is, (some_text_passes AirspaceText most_bytes file seen passes, passes), air_read seen air reads)
airspace_tested folder file (Err (Refused refusal)) (seen, is, fails) = (seen, is, inr (some_text_fails AirspaceText most_bytes file seen refusal fails, fails))
airspace_tested folder file (Err (Stopped stop)) read = tt

-- the task was refused
pub task_refused : (folder : Option FilesByName) (file : List ℕ) (halt : Halt) → HasReadFile {X = Task} TaskText most_bytes folder file IsReadFrom (Err halt)
    → HasTested (IsTaskSeen file folder) (task_tests file) IsDayRead (Err halt)
task_refused folder file (Refused refusal) (seen, is, fails) =
    let air = airspace_seen folder (airspace_file seen) in (
      record { text = seen; airspace = air.0 },
      record { text = is; airspace = air.1 },
      fails_in_front (text_tests TaskText most_bytes file seen) (airspace_tests (airspace_file seen) air.0) refusal fails,
    )
task_refused folder file (Stopped stop) read = tt

-- the task was read, and its airspace was refused
pub day_refused : (folder : Option FilesByName) (file : List ℕ) (task : Task) (halt : Halt) → HasReadFile TaskText most_bytes folder file IsReadFrom (Ok task)
    → HasTested {X = Airspace} (IsAirspaceSeen folder task.airspace) (airspace_tests task.airspace) IsAirspaceRead (Err halt)
    → HasTested (IsTaskSeen file folder) (task_tests file) IsDayRead (Err halt)
day_refused folder file task (Refused refusal) (seen, is, passes, reads) tested =
    let named = sym (file_is seen task reads) in
    let air = subst (λ (o : Option (List ℕ)). HasTested {X = Airspace} (IsAirspaceSeen folder o) (airspace_tests o) IsAirspaceRead (Err (Refused refusal))) named tested in (
      record { text = seen; airspace = air.0 },
      record { text = is; airspace = air.1 },
      fails_behind (text_tests TaskText most_bytes file seen) (airspace_tests (airspace_file seen) air.0) refusal passes air.2,
    )
day_refused folder file task (Stopped stop) read tested = tt

-- both were read
pub day_read : (folder : Option FilesByName) (file : List ℕ) (task : Task) (air : Airspace) → HasReadFile TaskText most_bytes folder file IsReadFrom (Ok task)
    → HasTested (IsAirspaceSeen folder task.airspace) (airspace_tests task.airspace) IsAirspaceRead (Ok air)
    → HasTested (IsTaskSeen file folder) (task_tests file) IsDayRead (Ok (record { task = task; airspace = air }))
day_read folder file task air (seen, is, passes, reads) tested =
    let named = sym (file_is seen task reads) in
    let over = subst (λ (o : Option (List ℕ)). HasTested (IsAirspaceSeen folder o) (airspace_tests o) IsAirspaceRead (Ok air)) named tested in (
      record { text = seen; airspace = over.0 },
      record { text = is; airspace = over.1 },
      all_pass (text_tests TaskText most_bytes file seen) (airspace_tests (airspace_file seen) over.0) passes over.2,
      record { task = reads; airspace = over.3 },
    )

-- the task isn't listed: the first test of either command
pub score_task_missing : (folder : Option FilesByName) (names : List (List ℕ)) (day : DayNames) (halt : Halt) → ListsNames folder names → IsNeeded names day.task (Err halt)
    → HasTested (IsScoreSeen day folder) (score_tests day) IsScoreRead (Err halt)
score_task_missing folder names day (Refused refusal) lists (none, same) =
    let proof = seen_some folder day.proof in (
      record { task = record { text = None; airspace = None }; proof = proof.0 },
      record { task = record { text = not_listed folder names day.task lists none; airspace = refl }; proof = proof.1 },
      inl (ap (λ (r : Refusal). r.file) same, (refl, ap (λ (r : Refusal). r.cause) same)),
    )
score_task_missing folder names day (Stopped stop) lists needed = tt

pub check_task_missing : (most : ℕ) (folder : Option FilesByName) (names : List (List ℕ)) (day : DayNames) (halt : Halt) → ListsNames folder names → IsNeeded names day.task (Err halt)
    → HasTestedDay most folder day (Err halt)
check_task_missing most folder names day (Refused refusal) lists (none, same) =
    let proof = seen_some folder day.proof in (
      record { task = record { text = None; airspace = None }; proof = proof.0 },
      record { task = record { text = not_listed folder names day.task lists none; airspace = refl }; proof = proof.1 },
      inl (ap (λ (r : Refusal). r.file) same, (refl, ap (λ (r : Refusal). r.cause) same)),
    )
check_task_missing most folder names day (Stopped stop) lists needed = tt

-- the task is listed, and the proof of `score` is too
pub score_proof_listed : (folder : Option FilesByName) (names : List (List ℕ)) (day : DayNames) (halt : Halt) → ListsNames folder names → HasFile folder day.task → IsUnused names day.proof (Err halt)
    → HasTested (IsScoreSeen day folder) (score_tests day) IsScoreRead (Err halt)
score_proof_listed folder names day (Refused refusal) lists task (listed, same) =
    let text = is_listed folder day.task task in
    let air = airspace_seen folder (named_airspace text.0) in
    let proof = is_listed folder day.proof (HasFile-from_names folder names day.proof lists listed) in (
      record { task = record { text = Some text.0; airspace = air.0 }; proof = Some proof.0 },
      record { task = record { text = text.1; airspace = air.1 }; proof = proof.1 },
      inr (refl, inl (ap (λ (r : Refusal). r.file) same, (refl, ap (λ (r : Refusal). r.cause) same))),
    )
score_proof_listed folder names day (Stopped stop) lists task used = tt

-- the task is listed, and the proof of `check` isn't
pub check_proof_missing : (most : ℕ) (folder : Option FilesByName) (names : List (List ℕ)) (day : DayNames) (halt : Halt) → ListsNames folder names → HasFile folder day.task
    → IsNeeded names day.proof (Err halt)
    → HasTestedDay most folder day (Err halt)
check_proof_missing most folder names day (Refused refusal) lists task (none, same) =
    let text = is_listed folder day.task task in
    let air = airspace_seen folder (named_airspace text.0) in (
      record { task = record { text = Some text.0; airspace = air.0 }; proof = None },
      record { task = record { text = text.1; airspace = air.1 }; proof = not_listed folder names day.proof lists none },
      inr (refl, inl (ap (λ (r : Refusal). r.file) same, (refl, ap (λ (r : Refusal). r.cause) same))),
    )
check_proof_missing most folder names day (Stopped stop) lists task needed = tt

-- the task is listed, the proof of `score` isn't, and the day was tested
pub score_tested : (folder : Option FilesByName) (names : List (List ℕ)) (day : DayNames) (result : Result DayFiles Halt) → ListsNames folder names → ¬ Contains names day.proof
    → HasTested (IsTaskSeen day.task folder) (task_tests day.task) IsDayRead result → HasTested (IsScoreSeen day folder) (score_tests day) IsScoreRead result
score_tested folder names day (Ok files) lists new (seen, is, passes, reads) =
    let rest = airspace_tests (airspace_file seen.text) seen.airspace in (
      record { task = seen; proof = None },
      record { task = is; proof = not_listed folder names day.proof lists new },
      (small_passes most_bytes day.task seen.text (Reads TaskText day.task seen.text ∷ rest) passes, (refl, passes)),
      reads,
    )
score_tested folder names day (Err (Refused refusal)) lists new (seen, is, fails) =
    let rest = airspace_tests (airspace_file seen.text) seen.airspace in (
      record { task = seen; proof = None },
      record { task = is; proof = not_listed folder names day.proof lists new },
      inr (small_fails most_bytes day.task seen.text (Reads TaskText day.task seen.text ∷ rest) refusal fails, inr (refl, fails)),
    )
score_tested folder names day (Err (Stopped stop)) lists new tested = tt

-- both are listed, and the day was refused
pub check_day_refused : (most : ℕ) (folder : Option FilesByName) (day : DayNames) (halt : Halt) → HasFile folder day.proof
    → HasTested {X = DayFiles} (IsTaskSeen day.task folder) (task_tests day.task) IsDayRead (Err halt) → HasTestedDay most folder day (Err halt)
check_day_refused most folder day (Refused refusal) there (seen, is, fails) =
    let proof = is_listed folder day.proof there in
    let rest = airspace_tests (airspace_file seen.text) seen.airspace in (
      record { task = seen; proof = Some proof.0 },
      record { task = is; proof = proof.1 },
      inr (
        small_fails most_bytes day.task seen.text (Reads TaskText day.task seen.text ∷ rest) refusal fails,
        inr (refl, fails_in_front (task_tests day.task seen) (text_tests ProofText most day.proof (Some proof.0)) refusal fails),
      ),
    )
check_day_refused most folder day (Stopped stop) there tested = tt

-- both are listed, and the day was tested
pub day_tested : (most : ℕ) (folder : Option FilesByName) (day : DayNames) (result : Result DayFiles Halt) → HasFile folder day.proof
    → HasTested (IsTaskSeen day.task folder) (task_tests day.task) IsDayRead result → HasTestedDay most folder day result
day_tested most folder day (Ok files) there tested = tested
day_tested most folder day (Err halt) there tested = check_day_refused most folder day halt there tested

-- both are listed, the day passed, and so the proof is tested
pub check_tested : {X : Type 0} (most : ℕ) (folder : Option FilesByName) (day : DayNames) (files : DayFiles) (result : Result X Halt) (IsOf : List ℕ → X → Type 0)
    → HasTestedDay most folder day (Ok files) → HasReadFile ProofText most folder day.proof IsOf result
    → HasTested (IsScoreSeen day folder) (check_tests most day) (λ seen x. IsDayRead seen.task files × IsSomeAnd seen.proof (λ text. IsOf text x)) result
check_tested most folder day files (Ok x) IsOf (seen, is, passes, reads) (proof, there, pass, are) =
    let rest = airspace_tests (airspace_file seen.text) seen.airspace in (
      record { task = seen; proof = proof },
      record { task = is; proof = there },
      (
        small_passes most_bytes day.task seen.text (Reads TaskText day.task seen.text ∷ rest) passes,
        (some_text_passes ProofText most day.proof proof pass, all_pass (task_tests day.task seen) (text_tests ProofText most day.proof proof) passes pass),
      ),
      (reads, are),
    )
check_tested most folder day files (Err (Refused refusal)) IsOf (seen, is, passes, reads) (proof, there, fails) =
    let rest = airspace_tests (airspace_file seen.text) seen.airspace in (
      record { task = seen; proof = proof },
      record { task = is; proof = there },
      inr (
        small_passes most_bytes day.task seen.text (Reads TaskText day.task seen.text ∷ rest) passes,
        inr (some_text_fails ProofText most day.proof proof refusal fails, fails_behind (task_tests day.task seen) (text_tests ProofText most day.proof proof) refusal passes fails),
      ),
    )
check_tested most folder day files (Err (Stopped stop)) IsOf tested read = tt
