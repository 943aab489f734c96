-- What the code makes of the bytes of a recording: what was read, or why nothing was; want of memory
-- apart.
use Rattle.std.specs.Prelude.{◌≢◌, ℕ, List, Option, Result, Err, ℤ}
use Rattle.gl_igc.specs.Recording.{IsReadAs}
use Rattle.gl_igc.specs.declared.error.IgcError.{IgcError}
use Rattle.gl_igc.specs.declared.error.IgcError.TheVariants.{Memory}
use Rattle.gl_igc.specs.declared.recording.Recording.{Recording}

pub record IsKnown (text : List ℕ) (day : Option ℤ) (read : Result Recording IgcError)
    : Type 0 where
  pub known : read ≢ Err Memory
  pub is : IsReadAs text day read
