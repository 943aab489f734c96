-- What a run is: its answer, what it says, and what it leaves.
use Rattle.std.specs.Prelude.{◌≡◌, ℕ, codes, List, Option, None, Some, IfNone}
use Rattle.gl_desk.specs.Answers.{CountsFaults}
use Rattle.gl_desk.specs.Desk.{FilesByName, Told, followed_by}
use Rattle.gl_draft.specs.declared.answer.Status as code
use Rattle.gl_draft.specs.declared.answer.Status.TheVariants as status
use Rattle.gl_draft.specs.declared.refusal.Cause.{Cause}
use Rattle.gl_draft.specs.Causes.{stop_at, stop_of_cause}
use Rattle.gl_draft.specs.Refusals.{refusal_text}
use Rattle.gl_draft.specs.Made.{IsMade, IsRefused}
use Rattle.gl_draft.specs.Words.{Asked, words_of}

-- a text is the line that tells why nothing is made
pub record IsRefusedWith (folder : Option FilesByName) (asked : Asked) (text : List ℕ)
    : Type 0 where
  pub why : Cause
  pub goes : stop_of_cause why ≡ None
  pub is : IsRefused folder asked why
  pub line : text ≡ refusal_text asked.0 why

-- what is said where the words ask for something, by the status
abbrev pub IsSaidFor : Option FilesByName → Asked → code.Status → List ℕ → Type 0
IsSaidFor folder asked status.Done text = IsMade folder asked text
IsSaidFor folder asked status.Refused text = IsRefusedWith folder asked text
IsSaidFor folder asked other text = ⊥

-- the line for words of no form
abbrev pub usage : List ℕ
usage = codes "usage: TASK.CUP | TASK.CUP NUMBER | --late DAY.TOML\n"

-- what a run that nothing stops says with its status
abbrev pub IsAnswer : Option FilesByName → Option Asked → code.Status → List ℕ → Type 0
IsAnswer folder (Some asked) ended text = IsSaidFor folder asked ended text
IsAnswer folder None ended text = (ended ≡ status.Words) × (text ≡ usage)

-- a run that nothing stops says its answer in one piece
pub record SaysAnswer (folder : Option FilesByName) (words : List (List ℕ)) (status : code.Status)
    (before after : Option (List ℕ)) : Type 0 where
  pub text : List ℕ
  pub is : IsAnswer folder (words_of words) status text
  pub said : after ≡ followed_by before text

-- a run writes nothing and changes no file; the count of faults rose exactly where it ended by a
-- fault
pub record IsRun (words : List (List ℕ)) (status : code.Status) (before after : Told)
    : Type 0 where
  pub folder : after.folder ≡ before.folder
  pub outputs : after.outputs ≡ before.outputs
  pub faults : CountsFaults (stop_at status) before.faults after.faults
  pub answers : IfNone (stop_at status)
      (SaysAnswer before.folder words status before.said after.said)
