-- What a run is: its answer, what it says, and what it leaves.
use Rattle.std.specs.Prelude.{◌≡◌, ◌≢◌, ℕ, codes, List, [], Option, None, Some, IfNone}
use Rattle.gl_desk.specs.Answers.{CountsFaults}
use Rattle.gl_desk.specs.Desk.{FilesByName, Told as DeskTold, followed_by}
use Rattle.gl_look.specs.declared.answer.Status as code
use Rattle.gl_look.specs.declared.answer.Status.TheVariants as status
use Rattle.gl_look.specs.declared.told.Told.{Told}
use Rattle.gl_look.specs.Line.{IsTextOf}
use Rattle.gl_look.specs.Look.{IsLook}
use Rattle.gl_look.specs.Status.{stop_at}
use Rattle.gl_look.specs.Words.{words_of}

-- a text has a line for each of the remarks, of which there are some
pub record IsRemarked (folder : Option FilesByName) (file text : List ℕ) : Type 0 where
  pub told : List Told
  pub look : IsLook folder file told
  pub some : told ≢ []
  pub lines : IsTextOf told text

-- there is nothing to remark, and nothing is said
pub record IsClear (folder : Option FilesByName) (file text : List ℕ) : Type 0 where
  pub look : IsLook folder file []
  pub silent : text ≡ []

-- the fact holds of the file that the words ask to look over
abbrev pub OnFile : Option (List ℕ) → (List ℕ → Type 0) → Type 0
OnFile None P = ⊥
OnFile (Some file) P = P file

-- the line for words of no form
abbrev pub usage : List ℕ
usage = codes "usage: look-over TASK\n"

-- what a run that nothing stops says with its status
abbrev pub IsAnswer : Option FilesByName → List (List ℕ) → code.Status → List ℕ → Type 0
IsAnswer folder words status.Clear text =
    OnFile (words_of words) (λ file. IsClear folder file text)
IsAnswer folder words status.Words text = (words_of words ≡ None) × (text ≡ usage)
IsAnswer folder words status.Desk text = ⊥
IsAnswer folder words status.Memory text = ⊥
IsAnswer folder words status.Remarks text =
    OnFile (words_of words) (λ file. IsRemarked folder file text)

-- a run that nothing stops says its answer in one piece
pub record SaysAnswer (folder : Option FilesByName) (words : List (List ℕ)) (status : code.Status)
    (before after : Option (List ℕ)) : Type 0 where
  pub text : List ℕ
  pub is : IsAnswer folder words status text
  pub said : after ≡ followed_by before text

-- a run writes nothing and changes no file; the count of faults rose exactly where it ended by a
-- fault
pub record IsRun (words : List (List ℕ)) (status : code.Status) (before after : DeskTold)
    : Type 0 where
  pub folder : after.folder ≡ before.folder
  pub outputs : after.outputs ≡ before.outputs
  pub faults : CountsFaults (stop_at status) before.faults after.faults
  pub answers : IfNone (stop_at status)
      (SaysAnswer before.folder words status before.said after.said)
