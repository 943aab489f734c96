-- What is read of a recording that comes in pieces.
use Rattle.std.specs.Prelude.{ℕ, ℤ, ◌≤◌, List, length, Option, Some, Result}
use Rattle.gl_desk.specs.Desk.{FilesByName, IsSeenIn}
use Rattle.gl_igc.specs.Recording.{IsReadAs}
use Rattle.gl_igc.specs.declared.error.IgcError.{IgcError}
use Rattle.gl_igc.specs.declared.recording.Recording.{Recording}
use Rattle.gl_desk.specs.Limits.{most_bytes}

-- A file was read to its end: its bytes, at most those that a recording may have, and what they say
-- by the day of a task. Where the folder is told, they are those that it has under the name.
pub record IsFileRead (folder : Option FilesByName) (file : List ℕ) (day : Option ℤ)
    (read : Result Recording IgcError) : Type 0 where
  pub bytes : List ℕ
  pub seen : IsSeenIn folder file (Some bytes)
  pub small : length bytes ≤ most_bytes
  pub says : IsReadAs bytes day read
