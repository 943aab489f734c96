-- What ends a command before its answer: a file is refused or was not read, or a call failed.
use Rattle.std.specs.Prelude.{◌≡◌, ℕ, ◌≤◌, List, length, Option, None, Some, Result, Ok, Err, Vec, ⊤}
use Rattle.std.specs.declared.alloc.Global.{Global}
use Rattle.gl_desk.specs.Desk.{FilesByName, IsSeenIn, IsLongerThan}
use Rattle.gl_desk.specs.declared.error.DeskError.{DeskError}
use Rattle.gl_desk.specs.declared.error.DeskError.TheVariants.{Failed, Memory}
use Rattle.gl_desk.specs.declared.error.ReadError.{ReadError}
use Rattle.gl_desk.specs.declared.error.ReadError.TheVariants as reading
use Rattle.gl_answer.specs.declared.halt.Halt.{Halt}
use Rattle.gl_answer.specs.declared.halt.Halt.TheVariants.{Refused, Stopped}
use Rattle.gl_answer.specs.declared.refusal.Cause.{Cause}
use Rattle.gl_answer.specs.declared.refusal.Cause.TheVariants.{TooLarge}
use Rattle.gl_answer.specs.Refusals.{file_refusal}

-- what stopped a call, if something did; a refusal stops nothing
abbrev pub halt_stop : {X : Type 0} → Result X Halt → Option DeskError
halt_stop (Ok x) = None
halt_stop (Err (Refused refusal)) = None
halt_stop (Err (Stopped stop)) = Some stop

-- no call of the desk failed
abbrev pub IsNoFault : {X : Type 0} → Result X Halt → Type 0
IsNoFault result = halt_stop result ≡ Some Failed → ⊥

-- a file is refused for a cause, or memory was wanting
abbrev pub Refuses : List ℕ → Cause → Halt → Type 0
Refuses file cause (Refused refusal) = refusal ≡ file_refusal file cause
Refuses file cause (Stopped stop) = stop ≡ Memory

-- a file is refused for a cause, if there is one, or memory was wanting
abbrev pub RefusesFor : List ℕ → Option Cause → Halt → Type 0
RefusesFor file None halt = halt ≡ Stopped Memory
RefusesFor file (Some cause) halt = Refuses file cause halt

-- what it comes to that a file wasn't read
abbrev pub IsUnread : List ℕ → ReadError → Halt → Type 0
IsUnread file reading.TooLarge halt = Refuses file TooLarge halt
IsUnread file reading.Fault halt = halt ≡ Stopped Failed
IsUnread file reading.Memory halt = halt ≡ Stopped Memory

-- the bytes that were seen of a file, which are at most so many, or there are more
abbrev pub AreBytes : Option FilesByName → List ℕ → ℕ → Result (Vec ℕ Global) Halt → Type 0
AreBytes folder file most (Ok bytes) =
    IsSeenIn folder file (Some bytes.items) × (length bytes.items ≤ most)
AreBytes folder file most (Err (Refused refusal)) =
    IsLongerThan most folder file × (refusal ≡ file_refusal file TooLarge)
AreBytes folder file most (Err (Stopped stop)) = ⊤
