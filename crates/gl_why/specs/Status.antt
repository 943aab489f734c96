-- How a run ends, as a status and as a number.
use Rattle.std.specs.Prelude.{ℕ, Option, None, Some}
use Rattle.gl_desk.specs.declared.error.DeskError.{DeskError}
use Rattle.gl_desk.specs.declared.error.DeskError.TheVariants as desk
use Rattle.gl_why.specs.declared.answer.Status as code
use Rattle.gl_why.specs.declared.answer.Status.TheVariants as status

-- what stopped a run before its end, if something did
abbrev pub stop_at : code.Status → Option DeskError
stop_at status.Said = None
stop_at status.Words = None
stop_at status.Desk = Some desk.Failed
stop_at status.Refused = None
stop_at status.Memory = Some desk.Memory

abbrev pub status_of : DeskError → code.Status
status_of desk.Failed = status.Desk
status_of desk.Memory = status.Memory

-- the number that the program ends with
abbrev pub number_of_status : code.Status → ℕ
number_of_status status.Said = 0
number_of_status status.Words = 2
number_of_status status.Desk = 3
number_of_status status.Refused = 4
number_of_status status.Memory = 5
