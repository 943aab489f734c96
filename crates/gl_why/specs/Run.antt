-- What a run is: its answer, what it says, and what it leaves.
use Rattle.std.specs.Prelude.{◌≡◌, ℕ, codes, if◌then◌else◌, List, Option, None, Some, IfNone}
use Rattle.std.specs.List.{list_any}
use Rattle.gl_desk.specs.Answers.{CountsFaults}
use Rattle.gl_desk.specs.Desk.{FilesByName, Told, followed_by}
use Rattle.gl_why.specs.Days.{IsDayTold}
use Rattle.gl_why.specs.Facts.{is_refusal}
use Rattle.gl_why.specs.Fixes.{AreFixesTold}
use Rattle.gl_why.specs.Line.{IsTextOf}
use Rattle.gl_why.specs.Status.{stop_at}
use Rattle.gl_why.specs.Words.{All, Fixes, One, Question, words_of}
use Rattle.gl_why.specs.declared.answer.Status as code
use Rattle.gl_why.specs.declared.answer.Status.TheVariants as status
use Rattle.gl_why.specs.declared.fact.Fact.{Fact}

-- what is told in answer to a question about a folder
abbrev pub IsTold : Option FilesByName → Question → List Fact → Type 0
IsTold folder (All file) facts = IsDayTold folder file None facts
IsTold folder (One file number) facts = IsDayTold folder file (Some number) facts
IsTold folder (Fixes file numbers) facts = AreFixesTold folder file numbers facts

-- how a run ends that tells these facts
abbrev pub status_of_facts : List Fact → code.Status
status_of_facts facts = if list_any is_refusal facts then status.Refused else status.Said

-- a text has a line for each fact of the answer to a question, and the status is theirs
pub record IsAnswered (folder : Option FilesByName) (question : Question) (end : code.Status)
    (text : List ℕ) : Type 0 where
  pub facts : List Fact
  pub told : IsTold folder question facts
  pub end_is : end ≡ status_of_facts facts
  pub lines : IsTextOf facts text

-- the lines for words of no form
abbrev pub usage : List ℕ
usage = codes "usage: why TASK [NUMBER]\nusage: why fix FILE N ..\n"

-- what a run that nothing stops says with its status
abbrev pub IsAnswer : Option FilesByName → Option Question → code.Status → List ℕ → Type 0
IsAnswer folder None end text = (end ≡ status.Words) × (text ≡ usage)
IsAnswer folder (Some question) end text = IsAnswered folder question end text

-- a run that nothing stops says its answer in one piece
pub record SaysAnswer (folder : Option FilesByName) (words : List (List ℕ)) (end : code.Status)
    (before after : Option (List ℕ)) : Type 0 where
  pub text : List ℕ
  pub is : IsAnswer folder (words_of words) end text
  pub said : after ≡ followed_by before text

-- a run writes nothing and changes no file; the count of faults rose exactly where it ended by a
-- fault
pub record IsRun (words : List (List ℕ)) (end : code.Status) (before after : Told) : Type 0 where
  pub folder : after.folder ≡ before.folder
  pub outputs : after.outputs ≡ before.outputs
  pub faults : CountsFaults (stop_at end) before.faults after.faults
  pub answers : IfNone (stop_at end)
      (SaysAnswer before.folder words end before.said after.said)
