-- How a run ends by the answer of its command.
use Rattle.std.specs.Prelude.{◌≡◌, ◌⊎◌, ℕ, take, Some, Result, Ok, Err}
use Rattle.gl_desk.specs.Answers.{CountsFaults}
use Rattle.gl_desk.specs.Desk.{Told, followed_by}
use Rattle.gl_desk.specs.declared.error.DeskError.{DeskError}
use Rattle.gl_answer.specs.declared.answer.Answer.{Answer}
use Rattle.gl_answer.specs.declared.status.Status.{Status}
use Rattle.gl_answer.specs.Statuses.{status_of}

-- the answer's text was said, and the run ended with its status
pub record IsSaid (answer : Answer) (status : Status) (before after : Told) : Type 0 where
  pub ended : status ≡ answer.status
  pub said : after.said ≡ followed_by before.said answer.text.items
  pub folder : after.folder ≡ before.folder
  pub outputs : after.outputs ≡ before.outputs
  pub faults : after.faults ≡ before.faults

-- a first part of it was said, and the run ended by what stopped that
pub record IsCutShort (answer : Answer) (status : Status) (before after : Told) : Type 0 where
  pub stop : DeskError
  pub count : ℕ
  pub ended : status ≡ status_of stop
  pub said : after.said ≡ followed_by before.said (take count answer.text.items)
  pub folder : after.folder ≡ before.folder
  pub outputs : after.outputs ≡ before.outputs
  pub faults : CountsFaults (Some stop) before.faults after.faults

-- an answer was said, or a first part of it; what stopped the command before its answer ended the
-- run, and nothing more was done
abbrev pub IsDelivered : Result Answer DeskError → Status → Told → Told → Type 0
IsDelivered (Ok answer) status before after =
    IsSaid answer status before after ⊎ IsCutShort answer status before after
IsDelivered (Err stop) status before after = (status ≡ status_of stop) × (after ≡ before)
