-- The volumes of a text while the code reads them.
use Rattle.std.specs.Prelude.{◌≡◌, ℕ, ◌≤◌, List, [], length, drop, Option, None, Result, Ok, Err, ◌++◌}
use Rattle.gl_airspace.specs.Draft.{IsVolume}
use Rattle.gl_airspace.specs.Parts.{Tells, AreVolumes}
use Rattle.gl_airspace.specs.Volumes.{Reading, Refusal, early_trouble, parted, readings_of}
use Rattle.gl_airspace.specs.declared.error.AirError.{AirError}
use Rattle.gl_airspace.specs.declared.openair.Start.{Start}
use Rattle.gl_airspace.specs.declared.volume.Volume.{Volume}

-- the first volume of a text begins behind lines that are all passed over, or there is none
pub record StartsVolumes (text : List ℕ) (start : Start) : Type 0 where
  pub within : start.next ≤ length text
  pub count : start.lines ≡ length (parted (readings_of text)).0
  pub counted : start.lines ≤ start.next
  pub passed : early_trouble (parted (readings_of text)).0 ≡ None
  pub behind : parted (readings_of (drop start.next text)) ≡ ([], (parted (readings_of text)).1)

-- the volume of some lines, or why it is refused
abbrev pub IsJudged : List Reading → Option Refusal → Result Volume AirError → Type 0
IsJudged lines refusal (Ok volume) = (refusal ≡ None) × IsVolume (parted lines).0 volume
IsJudged lines refusal (Err error) = Tells refusal error

-- the volumes are those of the first lists of lines, and the others are left
pub record IsGathered (all left : List (List Reading)) (volumes : List Volume) : Type 0 where
  pub done : List (List Reading)
  pub parts : all ≡ done ++ left
  pub are : AreVolumes done volumes
