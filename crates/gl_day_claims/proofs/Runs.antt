-- What the lemmas on a run of `score` have in common.
use Rattle.std.proofs.Common.{◌≡◌, ℕ, ◌<◌, List, length, get_or, take, Option, None, Result, Ok, Err, Some, sym, subst}
use Rattle.std.specs.Prelude.{Contains, IfErr}
use Rattle.gl_desk.specs.Answers.{OnlyReads, stop_of}
use Rattle.gl_desk.specs.Desk.{ListsNames, Told}
use Rattle.gl_desk.specs.declared.error.DeskError.{DeskError}
use Rattle.gl_desk.specs.declared.error.DeskError.TheVariants.{Memory}
use Rattle.gl_goal.specs.declared.any.AnyGoal.{AnyGoal}
use Rattle.gl_goal.specs.AnyGoal.{any_rule}
use Rattle.gl_judge.specs.Claimed.{rules_of_claims}
use Rattle.gl_proof.specs.declared.claim.ClaimKind.{ClaimKind}
use Rattle.gl_proof.specs.Claim.{Statement}
use Rattle.gl_task.specs.declared.task.Entrant.{Entrant}
use Rattle.gl_day.specs.declared.flight.Flight.{Flight}
use Rattle.gl_day.specs.declared.flight.Seen.{Seen}
use Rattle.gl_day.specs.declared.totals.Totals.{Totals}
use Rattle.gl_day.specs.Expected.{Proves, expected_of}
use Rattle.gl_day.specs.Flight.{StewardRules}
use Rattle.gl_day_files.specs.declared.day_files.DayFiles.{DayFiles}
use Rattle.gl_day_claims.specs.Code.Asked.{IsEntrantSeen, IsSeenAmong}
use Rattle.gl_day_claims.specs.Code.Scoring.{AreClaimed, AreEntrantsScored}

-- a day that is being scored: its files, what the stewards owe, the names that were listed, that of
-- the proof, which is new, and what the desk told as the run began
pub record DayRun : Type 0 where
  pub files : DayFiles
  pub stewards : List StewardRules
  pub names : List (List ℕ)
  pub proof : List ℕ
  pub before : Told
  pub lists : ListsNames before.folder names
  pub new : Contains names proof → ⊥

-- the day of a call
abbrev pub day_run : (files : DayFiles) (stewards : List StewardRules) (names : List (List ℕ)) (proof : List ℕ) (before : Told) → ListsNames before.folder names → (Contains names proof → ⊥) → DayRun
day_run files stewards names proof before lists new = record { files = files; stewards = stewards; names = names; proof = proof; before = before; lists = lists; new = new }

-- the entrants of the day
abbrev pub entrants_of : DayRun → List Entrant
entrants_of run = run.files.task.entrants

-- some entrants are done, and these are their flights
abbrev pub AreDone : DayRun → List Entrant → Told → List Flight → Type 0
AreDone run entrants now flights =
    AreEntrantsScored run.files run.stewards entrants run.proof run.before now flights

-- the entrant at a place of the day
pub record IsAt (run : DayRun) (i : ℕ) (entrant : Entrant) : Type 0 where
  pub below : i < length (entrants_of run)
  pub is : entrant ≡ get_or (entrants_of run) i entrant

-- an entrant of a day that is being scored, and what the desk told as it was the entrant's turn
pub record EntrantRun : Type 0 where
  pub files : DayFiles
  pub stewards : List StewardRules
  pub names : List (List ℕ)
  pub proof : List ℕ
  pub entrant : Entrant
  pub before : Told

-- what was seen of the entrant's file, for which the desk was only read
pub record HasSeen (run : EntrantRun) (seen : Seen) (now : Told) : Type 0 where
  pub there : Option (List ℕ)
  pub among : IsSeenAmong run.names run.before.folder run.entrant.file there
  pub is : IsEntrantSeen run.files.task run.entrant there seen
  pub reads : OnlyReads None run.before now

-- the claims of a flight that are being proved, and what the desk told before the first of them
pub record ClaimRun : Type 0 where
  pub number : List ℕ
  pub goals : List (ClaimKind × AnyGoal)
  pub proof : List ℕ
  pub before : Told

-- the first so many are proved, with these totals
abbrev pub AreFirst : ClaimRun → ℕ → Totals → Told → Type 0
AreFirst run i totals now =
    AreClaimed (expected_of run.number (rules_of_claims (take i run.goals))) totals run.proof run.before now

-- this one proves the goal at a place
pub record IsNext (run : ClaimRun) (i : ℕ) (goal : ClaimKind × AnyGoal) (statement : Statement) : Type 0 where
  pub below : i < length run.goals
  pub is : goal ≡ get_or run.goals i goal
  pub proves : Proves (record { number = run.number; kind = goal.0; rule = any_rule goal.1 }) statement

-- want of memory behind a call that only read leaves that the desk was only read
pub reads_memory : {X : Type 0} (before now : Told) (result : Result X DeskError) → IfErr result (λ stop. stop ≡ Memory) → OnlyReads None before now → OnlyReads (stop_of result) before now
reads_memory before now (Ok x) memory reads = reads
reads_memory before now (Err stop) memory reads =
    subst (λ (s : DeskError). OnlyReads (Some s) before now) (sym memory) (record { folder = reads.folder; said = reads.said; outputs = reads.outputs; faults = reads.faults })
