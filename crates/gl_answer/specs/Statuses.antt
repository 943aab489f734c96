-- The numbers of the statuses, and what stops a run.
use Rattle.std.specs.Prelude.{ℕ, Option, None, Some}
use Rattle.gl_desk.specs.declared.error.DeskError.{DeskError}
use Rattle.gl_desk.specs.declared.error.DeskError.TheVariants.{Failed, Memory}
use Rattle.gl_answer.specs.declared.status.Status.{Status}
use Rattle.gl_answer.specs.declared.status.Status.TheVariants as status

-- the number that the program ends with
abbrev pub number_of_status : Status → ℕ
number_of_status status.Done = 0
number_of_status status.Words = 2
number_of_status status.Desk = 3
number_of_status status.Refused = 4
number_of_status status.Memory = 5
number_of_status status.NotProved = 6

-- the status of a run that was stopped
abbrev pub status_of : DeskError → Status
status_of Failed = status.Desk
status_of Memory = status.Memory

-- what stopped a run before its end, if something did
abbrev pub stop_at : Status → Option DeskError
stop_at status.Done = None
stop_at status.Words = None
stop_at status.Desk = Some Failed
stop_at status.Refused = None
stop_at status.Memory = Some Memory
stop_at status.NotProved = None
