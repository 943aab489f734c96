-- Why no task file is made, and what stops a run.
use Rattle.std.specs.Prelude.{◌≡◌, ℕ, Option, None, Some, ⊤}
use Rattle.gl_cup.specs.declared.error.CupError.{CupError}
use Rattle.gl_cup.specs.declared.error.CupError.TheVariants as cup
use Rattle.gl_desk.specs.declared.error.DeskError.{DeskError}
use Rattle.gl_desk.specs.declared.error.DeskError.TheVariants as desk
use Rattle.gl_task_file.specs.declared.error.TaskError.{TaskError}
use Rattle.gl_task_file.specs.declared.error.TaskError.TheVariants as task
use Rattle.gl_draft.specs.declared.answer.Status.{Status}
use Rattle.gl_draft.specs.declared.answer.Status.TheVariants as status
use Rattle.gl_draft.specs.declared.refusal.Cause as code
use Rattle.gl_draft.specs.declared.refusal.Cause.TheVariants as cause

-- a text that gives no task; want of memory is no such cause
abbrev pub cause_of_cup : CupError → code.Cause
cause_of_cup cup.Memory = cause.Stopped desk.Memory
cause_of_cup error = cause.Cup error

-- what a task file can't say, by the number of its refusal
abbrev pub cause_of_task : TaskError → code.Cause
cause_of_task task.Toml = cause.Differs
cause_of_task (task.Missing key) = cause.Task 2 key
cause_of_task (task.Value key) = cause.Task 3 key
cause_of_task (task.Twice key) = cause.Task 4 key
cause_of_task (task.TooMany key) = cause.Task 5 key
cause_of_task task.Memory = cause.Stopped desk.Memory

-- what is wrong with a task file that stands in the folder
abbrev pub cause_of_file : TaskError → code.Cause
cause_of_file task.Toml = cause.NoToml
cause_of_file wrong = cause_of_task wrong

-- a call of the desk failed, or there was no memory
abbrev pub IsStopped : code.Cause → Type 0
IsStopped (cause.Stopped stop) = ⊤
IsStopped other = ⊥

-- what stopped the making of a task file, if something did
abbrev pub stop_of_cause : code.Cause → Option DeskError
stop_of_cause (cause.Stopped stop) = Some stop
stop_of_cause other = None

-- the outside didn't fail
abbrev pub IsNoFault : code.Cause → Type 0
IsNoFault (cause.Stopped stop) = stop ≡ desk.Memory
IsNoFault other = ⊤

-- what stopped a run before its end, if something did
abbrev pub stop_at : Status → Option DeskError
stop_at status.Desk = Some desk.Failed
stop_at status.Memory = Some desk.Memory
stop_at other = None

abbrev pub status_of : DeskError → Status
status_of desk.Failed = status.Desk
status_of desk.Memory = status.Memory

-- the number that the program ends with
abbrev pub number_of_status : Status → ℕ
number_of_status status.Done = 0
number_of_status status.Words = 2
number_of_status status.Desk = 3
number_of_status status.Refused = 4
number_of_status status.Memory = 5
