-- What the desk of the real system answers to the system's own answers.
use Rattle.std.specs.Prelude.{◌≡◌, ◌+◌, ◌-◌, ◌^◌, ℕ, min, IsNone, Result, Ok, Err}
use Rattle.std.specs.IoError.{error_kind, raw_os_error}
use Rattle.std.specs.declared.io.Error.{Error}
use Rattle.gl_desk.specs.declared.system.SystemError.{SystemError}
use Rattle.std.specs.declared.io.ErrorKind.TheVariants.{OutOfMemory, InvalidFilename}
use Rattle.gl_desk.specs.declared.error.DeskError.{DeskError}
use Rattle.gl_desk.specs.declared.error.DeskError.TheVariants.{Failed, Memory}

-- an allocation of our own failed, and not the system
abbrev pub IsWantOfMemory : Error → Type 0
IsWantOfMemory error = (error_kind error ≡ OutOfMemory) × IsNone (raw_os_error error)

-- a listing came upon an entry whose name isn't UTF-8, which it gives without a name
abbrev pub IsUnnamed : Error → Type 0
IsUnnamed error = (error_kind error ≡ InvalidFilename) × IsNone (raw_os_error error)

-- a desk answers what the system did, and counts each error of it once, up to the last value of a
-- `u64`
abbrev pub Settles : {X : Type 0} → Result X SystemError → Result X DeskError → ℕ → ℕ → Type 0
Settles (Ok x) result before after = (result ≡ Ok x) × (after ≡ before)
Settles (Err error) result before after =
    (IsWantOfMemory error.error → (result ≡ Err Memory) × (after ≡ before))
    × (¬ IsWantOfMemory error.error
    → (result ≡ Err Failed) × (after ≡ min (before + 1) (2 ^ 64 - 1)))
