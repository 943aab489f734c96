-- What the code makes of the bytes of a file: what was read, or why nothing was; want of memory
-- apart.
use Rattle.std.specs.Prelude.{◌≢◌, ℕ, List, Option, Result, Err, ℤ}
use Rattle.gl_airspace.specs.declared.error.AirError.{AirError}
use Rattle.gl_airspace.specs.declared.error.AirError.TheVariants as air_error
use Rattle.gl_airspace.specs.declared.volume.Airspace.{Airspace}
use Rattle.gl_igc.specs.Recording.{IsReadAs}
use Rattle.gl_igc.specs.declared.error.IgcError.{IgcError}
use Rattle.gl_igc.specs.declared.error.IgcError.TheVariants as igc_error
use Rattle.gl_igc.specs.declared.recording.Recording.{Recording}
use Rattle.gl_look.specs.Flights.{IsAirRead}

pub record IsKnown (text : List ℕ) (day : Option ℤ) (read : Result Recording IgcError)
    : Type 0 where
  pub known : read ≢ Err igc_error.Memory
  pub is : IsReadAs text day read

pub record IsKnownAir (text : List ℕ) (read : Result Airspace AirError) : Type 0 where
  pub known : read ≢ Err air_error.Memory
  pub is : IsAirRead text read
