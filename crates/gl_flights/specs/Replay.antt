-- The right answer of `replay`.
use Rattle.std.specs.Prelude.{◌≡◌, ℕ, List, [], ◌∷◌, ◌++◌, length, codes, Option, Vec}
use Rattle.std.specs.Fmt.{decimal}
use Rattle.std.specs.declared.alloc.Global.{Global}
use Rattle.gl_desk.specs.Desk.{FilesByName}
use Rattle.gl_goal.specs.Goal.{Goal}
use Rattle.gl_igc.specs.declared.recording.Recording.{Recording}
use Rattle.gl_replay.specs.Machine.{IsAfter, State, closed_in}
use Rattle.gl_replay.specs.declared.schedule.Step.{Step}
use Rattle.gl_words.specs.Words.{ReplayWords}
use Rattle.gl_flights.specs.ReplayFiles.{AreReplayRead, IsReplaySeen, ReplaySeen, replay_tests}
use Rattle.gl_answer.specs.declared.status.Status.TheVariants.{Done}
use Rattle.gl_answer.specs.Answer.{Answer, saying}
use Rattle.gl_flights.specs.Best.{IsBestText}
use Rattle.gl_answer.specs.ByTests.{IsByTests, PassByTests}
use Rattle.gl_flights.specs.Free.{whole_free_goal}
use Rattle.gl_answer.specs.Promise.{Promise, reading}

-- the line with the number of the boxes that workers closed by their steps
unfoldable pub closed_line : ℕ → List ℕ
closed_line count = codes "CLOSED " ++ decimal count ++ 10 ∷ []

-- How many boxes some workers close by their steps: by these they come to one state of the machine
-- and to no other, and in it all workers together have closed so many.
pub record CloseSoMany (goal : Goal) (workers : ℕ) (steps : List Step) (count : ℕ)
    : Type 0 where
  pub state : State
  pub after : IsAfter goal workers steps state
  pub only : (other : State) → IsAfter goal workers steps other → other ≡ state
  pub is : count ≡ length (closed_in state)

-- The text has the greatest free distance and legal fixes that reach it, as that of `free` has, and
-- then how many boxes the workers close by the steps of the schedule.
pub record IsReplayText (goal : Goal) (workers : ℕ) (steps : List Step) (said : List ℕ)
    : Type 0 where
  pub best : List ℕ
  pub is_best : IsBestText goal (codes "FREE") best
  pub count : ℕ
  pub closed : CloseSoMany goal workers steps count
  pub is : said ≡ best ++ closed_line count

-- such a text for all fixes of a recording
abbrev pub IsReplayOf : Recording → ℕ → List Step → List ℕ → Type 0
IsReplayOf recording workers steps said =
    IsReplayText (whole_free_goal recording.fixes) workers steps said

-- the answer says what is right for the recording and the steps that were seen
abbrev pub IsReplayed : ReplayWords → ReplaySeen → Answer → Type 0
IsReplayed words seen answer =
    (read : Recording × Vec Step Global) × AreReplayRead seen read
    × (said : List ℕ) × IsReplayOf read.0 words.workers read.1.items said
    × (answer ≡ saying Done said)

-- the answer of `replay`
abbrev pub IsReplay : Option FilesByName → ReplayWords → Answer → Type 0
IsReplay folder words answer =
    IsByTests (IsReplaySeen words folder) (replay_tests words) (IsReplayed words) answer

-- the promise of `replay`
abbrev pub replay_promise : Option FilesByName → ReplayWords → Promise
replay_promise folder words =
    reading (IsReplay folder words) (PassByTests folder (IsReplaySeen words) (replay_tests words))
