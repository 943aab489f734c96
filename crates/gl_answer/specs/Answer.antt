-- An answer of a run.
use Rattle.std.specs.Prelude.{ℕ, List, [], ◌≡◌, Result, Ok, Err, Vec}
use Rattle.std.specs.declared.alloc.AllocError.{AllocError}
use Rattle.std.specs.declared.alloc.Global.{Global}
use Rattle.gl_desk.specs.declared.error.DeskError.{DeskError}
use Rattle.gl_desk.specs.declared.error.DeskError.TheVariants.{Memory}
use Rattle.gl_answer.specs.declared.refusal.Cause.{Cause}
use Rattle.gl_answer.specs.declared.halt.Halt.{Halt}
use Rattle.gl_answer.specs.declared.halt.Halt.TheVariants as halt
use Rattle.gl_answer.specs.Refusals.{refusal_line, file_refusal}
use Rattle.gl_answer.specs.declared.answer.Answer as code
use Rattle.gl_answer.specs.declared.status.Status.{Status}
use Rattle.gl_answer.specs.declared.status.Status.TheVariants.{Done, Refused}

-- the status that a run ends with, what it says, and what it appends to the file that its command
-- writes
pub record Answer : Type 0 where
  pub status : Status
  pub said : List ℕ
  pub appended : List ℕ

-- an answer that says a text and appends nothing
abbrev pub saying : Status → List ℕ → Answer
saying status text = record { status = status; said = text; appended = [] }

-- a refused run says the refusal's one line
abbrev pub refused : List ℕ → Cause → Answer
refused file cause = saying Refused (refusal_line (file_refusal file cause))

-- an answer of the code, which appends nothing
abbrev pub answer_of : code.Answer → Answer
answer_of answer = saying answer.status answer.text.items

-- an answer of the code, once this text was appended
abbrev pub answer_with : code.Answer → List ℕ → Answer
answer_with answer text =
    record { status = answer.status; said = answer.text.items; appended = text }

-- the answer of a command that was carried out says a text; if there was no memory for the text,
-- that stops the run
abbrev pub SaysDone : Result (Vec ℕ Global) AllocError → Result code.Answer DeskError → Type 0
SaysDone (Ok text) (Ok answer) = answer_of answer ≡ saying Done text.items
SaysDone (Ok text) (Err stop) = ⊥
SaysDone (Err error) (Ok answer) = ⊥
SaysDone (Err error) (Err stop) = stop ≡ Memory

-- the answer to what ended a command before its own: the line of a refusal, or what stopped it;
-- want of memory can come in place of the line
abbrev pub AnswersHalt : Halt → Result code.Answer DeskError → Type 0
AnswersHalt (halt.Refused refusal) (Ok answer) =
    answer_of answer ≡ refused refusal.file refusal.cause
AnswersHalt (halt.Refused refusal) (Err stop) = stop ≡ Memory
AnswersHalt (halt.Stopped stop) (Ok answer) = ⊥
AnswersHalt (halt.Stopped stop) (Err error) = error ≡ stop
