-- Definitions of the code alone, which no promise to a caller cites: what a run is asked for and
-- answers, and what stops a call.
use Rattle.std.specs.Prelude.{Option, None, Result, Ok, Err, ◌≡◌}
use Rattle.gl_desk.specs.Desk.{FilesByName}
use Rattle.gl_desk.specs.declared.error.DeskError.{DeskError}
use Rattle.gl_draft.specs.Causes.{stop_at, stop_of_cause}
use Rattle.gl_draft.specs.Run.{IsAnswer}
use Rattle.gl_draft.specs.Words.{Asked}
use Rattle.gl_draft.specs.declared.command.Answer as code_answer
use Rattle.gl_draft.specs.declared.refusal.Cause as code_cause
use Rattle.gl_draft.specs.declared.words.Words as code_words

-- what stopped a call, if something did
abbrev pub stop_in : {X : Type 0} → Result X code_cause.Cause → Option DeskError
stop_in (Ok x) = None
stop_in (Err why) = stop_of_cause why

abbrev pub asked_by : code_words.Words → Asked
asked_by words = (words.file.now, words.asks)

-- an answer of a run that nothing stopped
pub record Answers (folder : Option FilesByName) (asked : Option Asked)
    (answer : code_answer.Answer) : Type 0 where
  pub goes : stop_at answer.status ≡ None
  pub is : IsAnswer folder asked answer.status answer.text.items
