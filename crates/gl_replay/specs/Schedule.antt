-- A written order of steps as text: one step a line.
use Rattle.std.specs.Prelude.{◌≡◌, ◌≢◌, ℕ, ◌+◌, ◌^◌, ◌<◌, ◌≤◌, List, ◌∷◌, ◌++◌, length, map, codes, All}
use Rattle.std.specs.Fmt.{decimal}
use Rattle.gl_text.specs.Lines.{lines_of}
use Rattle.gl_replay.specs.declared.error.StepError.{StepError}
use Rattle.gl_replay.specs.declared.error.StepError.TheVariants.{Line, TooMany, Memory}
use Rattle.gl_replay.specs.declared.schedule.Step.{Step}
use Rattle.gl_replay.specs.declared.schedule.Step.TheVariants.{Take, Steal, Split, Close, Look, Raise}

-- the line of a step: its word and the numbers of its workers, one space, the byte 32, between
abbrev pub line_of : Step → List ℕ
line_of (Take worker) = codes "take " ++ decimal worker
line_of (Steal worker victim) = codes "steal " ++ decimal worker ++ 32 ∷ decimal victim
line_of (Split worker) = codes "split " ++ decimal worker
line_of (Close worker) = codes "close " ++ decimal worker
line_of (Look worker) = codes "look " ++ decimal worker
line_of (Raise worker) = codes "raise " ++ decimal worker

-- the numbers of a step's workers have 32 bits
abbrev pub IsStep : Step → Type 0
IsStep (Take worker) = worker < 2 ^ 32
IsStep (Steal worker victim) = (worker < 2 ^ 32) × (victim < 2 ^ 32)
IsStep (Split worker) = worker < 2 ^ 32
IsStep (Close worker) = worker < 2 ^ 32
IsStep (Look worker) = worker < 2 ^ 32
IsStep (Raise worker) = worker < 2 ^ 32

-- a line is that of no step
abbrev pub ReadsNot : List ℕ → Type 0
ReadsNot line = (step : Step) → IsStep step → line ≢ line_of step

-- the lines of a text are those of at most 1,000,000 steps
pub record IsSchedule (text : List ℕ) (steps : List Step) : Type 0 where
  pub each : All IsStep steps
  pub lines : lines_of text ≡ map line_of steps
  pub few : length steps ≤ 1_000_000

-- behind the lines of some steps stands a line that is that of no step
pub record IsWrongAt (text : List ℕ) (number : ℕ) : Type 0 where
  pub steps : List Step
  pub wrong : List ℕ
  pub behind : List (List ℕ)
  pub each : All IsStep steps
  pub lines : lines_of text ≡ map line_of steps ++ wrong ∷ behind
  pub reads_not : ReadsNot wrong
  pub number_is : number ≡ length steps + 1
  pub among : number ≤ 1_000_000

-- the first 1,000,000 lines are those of steps, and there are more
pub record HasTooMany (text : List ℕ) : Type 0 where
  pub steps : List Step
  pub behind : List (List ℕ)
  pub each : All IsStep steps
  pub lines : lines_of text ≡ map line_of steps ++ behind
  pub many : length steps ≡ 1_000_000
  pub more : 0 < length behind

-- what is told of a text that is no schedule; want of memory can always be told
abbrev pub IsRefused : List ℕ → StepError → Type 0
IsRefused text (Line number) = IsWrongAt text number
IsRefused text TooMany = HasTooMany text
IsRefused text Memory = Unit {0}
