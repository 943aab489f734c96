-- What a run gave: the answer of its command, or a first part of it.
use Rattle.std.specs.Prelude.{◌≡◌, ℕ, List, [], Option, Some, take, ◌⊎◌, MatchOption}
use Rattle.gl_desk.specs.Answers.{CountsFaults}
use Rattle.gl_desk.specs.Desk.{Told, followed_by}
use Rattle.gl_desk.specs.declared.error.DeskError.{DeskError}
use Rattle.gl_answer.specs.declared.answer.Answer as code
use Rattle.gl_answer.specs.declared.status.Status.{Status}
use Rattle.gl_answer.specs.Answer.{Answer, answer_with}
use Rattle.gl_answer.specs.Appending.{HasGiven, IsAppended}
use Rattle.gl_answer.specs.Promise.{Promise}
use Rattle.gl_answer.specs.Statuses.{stop_at}
use Rattle.gl_answer.specs.Texts.{IsLine}

-- the answer was given: all of it was appended and said, and the run ended with its status; where
-- nothing is appended no file is made
pub record Gives (target : Option (List ℕ)) (answer : Answer) (status : Status)
    (before after : Told) : Type 0 where
  pub ended : status ≡ answer.status
  pub said : after.said ≡ followed_by before.said answer.said
  pub appended : IsAppended target answer.appended before after
  pub untouched : answer.appended ≡ []
      → (after.folder ≡ before.folder) × (after.outputs ≡ before.outputs)

-- a first part of the answer was given, and something was said only where all was appended
pub record GivesPart (target : Option (List ℕ)) (answer : Answer)
    (before after : Told) : Type 0 where
  pub appended_bytes : ℕ
  pub said_bytes : ℕ
  pub said : after.said ≡ followed_by before.said (take said_bytes answer.said)
  pub appended : IsAppended target (take appended_bytes answer.appended) before after
  pub in_order : (said_bytes ≡ 0) ⊎ (take appended_bytes answer.appended ≡ answer.appended)

-- nothing was appended or said
abbrev pub GivesNothing : Told → Told → Type 0
GivesNothing before after =
    (after.said ≡ before.said) × (after.folder ≡ before.folder) × (after.outputs ≡ before.outputs)

-- a text that a stopped command leaves was appended, and nothing was said
pub record GivesBegun (promise : Promise) (before after : Told) : Type 0 where
  pub text : List ℕ
  pub begun : promise.IsBegun text
  pub said : after.said ≡ before.said
  pub appended : IsAppended promise.target text before after

-- The answer of the code is right with the text that was appended.
abbrev pub HasAnswered : Promise → Told → Told → code.Answer → Type 0
HasAnswered promise before after answer =
    (text : List ℕ) × promise.IsRight (answer_with answer text)
    × HasGiven promise.target text before after

-- A command was stopped before its answer: it gave nothing, or what a stopped command leaves.
pub record IsStopped (promise : Promise) (before after : Told) (stop : DeskError) : Type 0 where
  pub gave : GivesNothing before after ⊎ GivesBegun promise before after
  pub faults : CountsFaults (Some stop) before.faults after.faults

-- A stopped run gave nothing, or a first part of a right answer.
abbrev pub Stops : Promise → Told → Told → Type 0
Stops promise before after =
    GivesNothing before after
    ⊎ ((answer : Answer) × promise.IsRight answer × GivesPart promise.target answer before after)

-- How a run ends, by its status: it gave a right answer, or it was stopped.
abbrev pub Ends : Promise → Status → Told → Told → Type 0
Ends promise status before after =
    MatchOption (stop_at status)
    ((answer : Answer) × promise.IsRight answer × Gives promise.target answer status before after)
    (λ _. Stops promise before after)

-- one line was said
abbrev pub SaidLine : Option (List ℕ) → Option (List ℕ) → Type 0
SaidLine before after = (line : List ℕ) × IsLine line × (after ≡ followed_by before line)
