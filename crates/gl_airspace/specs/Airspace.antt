-- The airspace of a text.
use Rattle.std.specs.Prelude.{◌≡◌, ℕ, List, None}
use Rattle.gl_airspace.specs.declared.volume.Airspace.{Airspace}
use Rattle.gl_airspace.specs.Parts.{AreVolumes}
use Rattle.gl_airspace.specs.Volumes.{parted, readings_of, refusal_of}

-- the airspace of a text that isn't refused
pub record IsAirspace (text : List ℕ) (air : Airspace) : Type 0 where
  pub reads : refusal_of (readings_of text) ≡ None
  pub volumes : AreVolumes (parted (readings_of text)).1 air.volumes
