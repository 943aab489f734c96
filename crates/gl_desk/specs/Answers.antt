-- What an answer says of the count of faults, and what a call leaves that only reads.
use Rattle.std.specs.Prelude.{◌≡◌, ℕ, Option, None, Some, Result, Ok, Err}
use Rattle.gl_desk.specs.declared.error.DeskError.{DeskError}
use Rattle.gl_desk.specs.declared.error.DeskError.TheVariants.{Failed, Memory}
use Rattle.gl_desk.specs.declared.error.ReadError as read
use Rattle.gl_desk.specs.declared.error.ReadError.TheVariants as read_error
use Rattle.gl_desk.specs.Desk.{Told, Rose}

-- what stopped a call of a desk, if something did
abbrev pub stop_of : {X : Type 0} → Result X DeskError → Option DeskError
stop_of (Ok x) = None
stop_of (Err error) = Some error

-- what stopped the reading of a whole file, if something did; one that is too large stops nothing
abbrev pub reading_stop : {X : Type 0} → Result X read.ReadError → Option DeskError
reading_stop (Ok x) = None
reading_stop (Err read_error.Fault) = Some Failed
reading_stop (Err read_error.TooLarge) = None
reading_stop (Err read_error.Memory) = Some Memory

-- what the reader of a whole file answers where a call of the desk answered this
abbrev pub read_error_of : DeskError → read.ReadError
read_error_of Failed = read_error.Fault
read_error_of Memory = read_error.Memory

-- the count of faults rose where the outside failed, and is as before everywhere else
abbrev pub CountsFaults : Option DeskError → ℕ → ℕ → Type 0
CountsFaults None before after = after ≡ before
CountsFaults (Some Failed) before after = Rose before after
CountsFaults (Some Memory) before after = after ≡ before

-- all that a call changes that only reads is the count of faults
pub record OnlyReads (stop : Option DeskError) (before after : Told) : Type 0 where
  pub folder : after.folder ≡ before.folder
  pub said : after.said ≡ before.said
  pub outputs : after.outputs ≡ before.outputs
  pub faults : CountsFaults stop before.faults after.faults
