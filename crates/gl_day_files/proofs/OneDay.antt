-- In a folder the tests of `score` end in one way.
use Rattle.std.proofs.Common.{◌≡◌, ◌∙◌, refl, sym, ap, subst, ℕ, ◌⊎◌, inl, inr, List, [], ◌∷◌, Option, None, Some}
use Rattle.std.specs.Prelude.{IsSomeAnd, min}
use Rattle.toml.specs.Data.{Members}
use Rattle.gl_airspace.specs.Parts.{Tells}
use Rattle.gl_airspace.specs.Volumes as volumes
use Rattle.gl_airspace.specs.declared.error.AirError.{AirError}
use Rattle.gl_airspace.specs.declared.error.AirError.TheVariants as air
use Rattle.gl_airspace.specs.declared.volume.Airspace.{Airspace}
use Rattle.gl_airspace.proofs.SameAirspace.{airspace_same, no_volumes_same}
use Rattle.gl_desk.specs.Desk.{FilesByName, IsSeenIn}
use Rattle.gl_task_file.specs.Keys.{first_failed}
use Rattle.gl_task_file.specs.Reading.{FailsFirst, IsDocument, IsReadFrom, IsRefusalOf}
use Rattle.gl_task_file.specs.Tests.{tests}
use Rattle.gl_task_file.specs.declared.error.TaskError.{TaskError}
use Rattle.gl_task_file.specs.declared.error.TaskError.TheVariants as task
use Rattle.gl_task.specs.declared.task.Task.{Task}
use Rattle.gl_words.specs.DayWords.{DayNames}
use Rattle.gl_day_files.specs.declared.day_files.DayFiles.{DayFiles}
use Rattle.gl_answer.specs.declared.refusal.Cause.{Cause}
use Rattle.gl_answer.specs.declared.refusal.Refusal.{Refusal}
use Rattle.gl_day_files.specs.DayFiles.{AirspaceText, IsAirspaceRead, IsAirspaceSeen, IsDayRead, IsScoreSeen, IsTaskSeen, ScoreSeen, TaskSeen, TaskText, airspace_cause, airspace_file, airspace_tests, score_tests, task_cause}
use Rattle.gl_answer.specs.FileTests.{Fails, FileTest, FirstFails, IsNoText, Kind, Reads}
use Rattle.gl_answer.proofs.FileTests.{AreDecided, passes_or_fails}
use Rattle.gl_day_files.proofs.DayDecided.{score_decided}
use Rattle.gl_day_files.proofs.Readings.{document_same}
use Rattle.gl_day_files.proofs.TaskSame.{task_same}
use Rattle.gl_text.proofs.Lists.{one_some}

-- a folder has one file under a name
pub seen_alone : (files : FilesByName) (file : List ℕ) (a b : Option (List ℕ)) → IsSeenIn (Some files) file a → IsSeenIn (Some files) file b → b ≡ a
seen_alone files file a b is also = sym also ∙ is

airspace_alone : (files : FilesByName) (file : Option (List ℕ)) (a b : Option (List ℕ)) → IsAirspaceSeen (Some files) file a → IsAirspaceSeen (Some files) file b → b ≡ a
airspace_alone files None a b is also = also ∙ sym is
airspace_alone files (Some file) a b is also = seen_alone files file a b is also

task_seen_one : (files : FilesByName) (file : List ℕ) (s t : TaskSeen) → IsTaskSeen file (Some files) s → IsTaskSeen file (Some files) t → t ≡ s
task_seen_one files file s t is also =
    let text = seen_alone files file s.text t.text is.text also.text in
    let air = airspace_alone files (airspace_file s.text) s.airspace t.airspace is.airspace
    (subst (λ (o : Option (List ℕ)). IsAirspaceSeen (Some files) (airspace_file o) t.airspace) text also.airspace) in
    λ i. record { text = text i; airspace = air i }

-- so one thing is seen of the files of `score` and `check`
pub seen_one : (files : FilesByName) (names : DayNames) (s t : ScoreSeen) → IsScoreSeen names (Some files) s → IsScoreSeen names (Some files) t → t ≡ s
seen_one files names s t is also =
    let day = task_seen_one files names.task s.task t.task is.task also.task in
    let proof = seen_alone files names.proof s.proof t.proof is.proof also.proof in
    λ i. record { task = day i; proof = proof i }

-- of which one day is read
task_one : (seen : Option (List ℕ)) (v w : Task) → IsSomeAnd seen (λ text. IsReadFrom text v) → IsSomeAnd seen (λ text. IsReadFrom text w) → v ≡ w
task_one None v w is also = absurd is
task_one (Some text) v w is also = task_same text v w is also

airspace_one : (seen : Option (List ℕ)) (a b : Airspace) → IsAirspaceRead seen a → IsAirspaceRead seen b → a ≡ b
airspace_one None a b is also = no_volumes_same a b is also
airspace_one (Some text) a b is also = airspace_same text a b is also

pub day_one : (seen : TaskSeen) (a b : DayFiles) → IsDayRead seen a → IsDayRead seen b → a ≡ b
day_one seen a b is also =
    let tasks = task_one seen.text a.task b.task is.task also.task in
    let airs = airspace_one seen.airspace a.airspace b.airspace is.airspace also.airspace in
    λ i. record { task = tasks i; airspace = airs i }

-- two errors are one, unless memory is wanting
abbrev AreOne : {E : Type 0} → E → E → E → Type 0
AreOne memory a b = (a ≡ memory) ⊎ ((b ≡ memory) ⊎ (a ≡ b))

-- errors that are one have one cause, where want of memory is none
cause_one : {E : Type 0} (cause : E → Option Cause) (memory x y : E) (a b : Cause) → cause memory ≡ None → AreOne memory x y → cause x ≡ Some a → cause y ≡ Some b → a ≡ b
cause_one cause memory x y a b none (inl wanting) is also =
    let e : ◌≡◌ {A = Option Cause} None (Some a) = sym none ∙ sym (ap cause wanting) ∙ is in absurd (cc)
cause_one cause memory x y a b none (inr (inl wanting)) is also =
    let e : ◌≡◌ {A = Option Cause} None (Some b) = sym none ∙ sym (ap cause wanting) ∙ also in absurd (cc)
cause_one cause memory x y a b none (inr (inr same)) is also = one_some (cause y) a b (sym (ap cause same) ∙ is) also

-- the first test of a text that fails is one
fails_one : (text : List ℕ) (a b : TaskError) → FailsFirst text a → FailsFirst text b → a ≡ b
fails_one text a b is also =
    one_some (first_failed (tests is.file)) a b is.first
    (subst (λ (file : Members). first_failed (tests file) ≡ Some b) (sym (document_same text is.file also.file is.document also.document)) also.first)

-- why a text gives no task: memory is wanting, it is no TOML, or a test fails
abbrev IsKnown : List ℕ → TaskError → Type 0
IsKnown text error =
    (error ≡ task.Memory) ⊎ (((error ≡ task.Toml) × ((file : Members) → IsDocument text file → ⊥)) ⊎ FailsFirst text error)

refusal_known : (text : List ℕ) (error : TaskError) → IsRefusalOf text error → IsKnown text error
refusal_known text task.Toml is = inr (inl (refl, is))
refusal_known text (task.Missing key) is = inr (inr is)
refusal_known text (task.Value key) is = inr (inr is)
refusal_known text (task.Twice key) is = inr (inr is)
refusal_known text (task.TooMany key) is = inr (inr is)
refusal_known text task.Memory is = inl refl

known_one : (text : List ℕ) (a b : TaskError) → IsKnown text a → IsKnown text b → AreOne task.Memory a b
known_one text a b (inl wanting) also = inl wanting
known_one text a b (inr is) (inl wanting) = inr (inl wanting)
known_one text a b (inr (inl is)) (inr (inl also)) = inr (inr (is.0 ∙ sym also.0))
known_one text a b (inr (inl is)) (inr (inr fails)) = absurd (is.1 fails.file fails.document)
known_one text a b (inr (inr fails)) (inr (inl also)) = absurd (also.1 fails.file fails.document)
known_one text a b (inr (inr fails)) (inr (inr also)) = inr (inr (fails_one text a b fails also))

task_cause_one : (text : List ℕ) (a b : Cause) → IsNoText TaskText text a → IsNoText TaskText text b → a ≡ b
task_cause_one text a b (x, is, why) (y, also, too) =
    cause_one task_cause task.Memory x y a b refl (known_one text x y (refusal_known text x is) (refusal_known text y also)) why too

-- the error that tells a refusal
abbrev telling : Option volumes.Refusal → AirError
telling None = air.Memory
telling (Some (volumes.Line k)) = air.Line (min k 4_294_967_295)
telling (Some (volumes.TooMany k)) = air.TooMany (min k 4_294_967_295)

tells_so : (refusal : Option volumes.Refusal) (error : AirError) → Tells refusal error → (error ≡ air.Memory) ⊎ (error ≡ telling refusal)
tells_so refusal air.Memory tells = inl refl
tells_so None (air.Line n) tells = absurd tells
tells_so None (air.TooMany n) tells = absurd tells
tells_so (Some (volumes.Line k)) (air.Line n) tells = inr (ap air.Line tells)
tells_so (Some (volumes.Line k)) (air.TooMany n) tells = absurd tells
tells_so (Some (volumes.TooMany k)) (air.Line n) tells = absurd tells
tells_so (Some (volumes.TooMany k)) (air.TooMany n) tells = inr (ap air.TooMany tells)

both_told : (told a b : AirError) → (a ≡ air.Memory) ⊎ (a ≡ told) → (b ≡ air.Memory) ⊎ (b ≡ told) → AreOne air.Memory a b
both_told told a b (inl wanting) also = inl wanting
both_told told a b (inr is) (inl wanting) = inr (inl wanting)
both_told told a b (inr is) (inr also) = inr (inr (is ∙ sym also))

airspace_cause_one : (text : List ℕ) (a b : Cause) → IsNoText AirspaceText text a → IsNoText AirspaceText text b → a ≡ b
airspace_cause_one text a b (x, is, why) (y, also, too) =
    let told = volumes.refusal_of (volumes.readings_of text) in
    cause_one airspace_cause air.Memory x y a b refl (both_told (telling told) x y (tells_so told x is) (tells_so told y also)) why too

-- a test that fails for one cause alone
abbrev HasOneCause : FileTest → Type 0
HasOneCause test = (a b : Cause) → Fails test a → Fails test b → a ≡ b

abbrev HaveOneCause : List FileTest → Type 0
HaveOneCause [] = Unit {0}
HaveOneCause (test ∷ tests) = HasOneCause test × HaveOneCause tests

text_once : (kind : Kind) (file : List ℕ) (seen : Option (List ℕ)) → ((text : List ℕ) (a b : Cause) → IsNoText kind text a → IsNoText kind text b → a ≡ b) → HasOneCause (Reads kind file seen)
text_once kind file None once = λ a b is also. absurd is
text_once kind file (Some text) once = λ a b is also. once text a b is also

airspace_once : (file : Option (List ℕ)) (seen : Option (List ℕ)) → HaveOneCause (airspace_tests file seen)
airspace_once None seen = tt
airspace_once (Some file) seen =
    ((λ a b is also. is.1 ∙ sym also.1), ((λ a b is also. is.1 ∙ sym also.1), (text_once AirspaceText file seen airspace_cause_one, tt)))

score_once : (names : DayNames) (seen : ScoreSeen) → HaveOneCause (score_tests names seen)
score_once names seen =
    let text = text_once TaskText names.task seen.task.text task_cause_one in
    let rest = airspace_once (airspace_file seen.task.text) seen.task.airspace in
    ((λ a b is also. is.1 ∙ sym also.1), ((λ a b is also. is.1 ∙ sym also.1), ((λ a b is also. is.1 ∙ sym also.1), (text, rest))))

-- two refusals with one file and one cause
same_refusal : (r q : Refusal) → r.file ≡ q.file → r.cause ≡ q.cause → r ≡ q
same_refusal r q file cause = λ i. record { file = file i; cause = cause i }

-- the first of such tests that fails refuses one file for one cause
first_one : (tests : List FileTest) (r q : Refusal) → AreDecided tests → HaveOneCause tests → FirstFails tests r → FirstFails tests q → r ≡ q
first_one [] r q decided once is also = absurd is
first_one (test ∷ tests) r q decided once (inl is) (inl also) = same_refusal r q (is.0 ∙ sym also.0) (once.0 r.cause q.cause is.1 also.1)
first_one (test ∷ tests) r q decided once (inl is) (inr also) = absurd (passes_or_fails test r.cause decided.0 also.0 is.1)
first_one (test ∷ tests) r q decided once (inr is) (inl also) = absurd (passes_or_fails test q.cause decided.0 is.0 also.1)
first_one (test ∷ tests) r q decided once (inr is) (inr also) = first_one tests r q decided.1 once.1 is.1 also.1

pub refusal_one : (names : DayNames) (seen : ScoreSeen) (r q : Refusal) → FirstFails (score_tests names seen) r → FirstFails (score_tests names seen) q → r ≡ q
refusal_one names seen r q is also = first_one (score_tests names seen) r q (score_decided names seen) (score_once names seen) is also
