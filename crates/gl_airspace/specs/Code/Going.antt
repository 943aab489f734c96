-- Going over the lines of a volume.
use Rattle.std.specs.Prelude.{◌≡◌, ℕ, ◌+◌, ◌-◌, ◌<◌, ◌≤◌, List, [], ◌++◌, length, drop, Option, None, Some, option_map, MatchOption}
use Rattle.gl_airspace.specs.declared.part.Part.{Part}
use Rattle.gl_airspace.specs.Code.Parts.{Says, number_at}
use Rattle.gl_airspace.specs.Volumes.{Reading, corner_at, corners_in, lower, misfit_after, parted, readings_of}

-- the lines of a volume, of some lines the first of which stands behind the one that begins it
abbrev pub volume_of : List Reading → List Reading
volume_of lines = (parted lines).0

-- all lines of a volume fit, and what they came to
pub record Fits (text : List ℕ) (lines : List Reading) (room : ℕ) (part : Part) : Type 0 where
  pub says : Says part.draft (volume_of lines)
  pub count : part.lines ≡ length (volume_of lines)
  pub all_fit : misfit_after [] (volume_of lines) ≡ None
  pub surplus : corner_at room (volume_of lines) ≡ part.surplus
  pub few : part.surplus ≡ None → length (corners_in (volume_of lines)) ≤ room
  pub behind : parted (readings_of (drop part.next text)) ≡ ([], (parted lines).1)

-- a line of a volume doesn't fit; a surplus corner is told where it stands before that line
pub record Misfits (lines : List Reading) (room : ℕ) (part : Part) (place : ℕ) : Type 0 where
  pub first : misfit_after [] (volume_of lines) ≡ Some place
  pub surplus : (line : ℕ)
      → lower (number_at line (Some place)) (number_at line (corner_at room (volume_of lines)))
      ≡ lower (number_at line (Some place)) (number_at line part.surplus)

-- the lines of a volume were gone over
pub record GoesOver (text : List ℕ) (lines : List Reading) (room : ℕ) (part : Part) : Type 0 where
  pub within : part.next ≤ length text
  pub result : MatchOption part.misfit (Fits text lines room part) (Misfits lines room part)

-- What is known of the place of a surplus corner among the lines of a volume, where so many of them
-- were gone over: no more than there is room for came so far, and it is among those that are left;
-- or it was come upon.
abbrev pub IsSurplus : Option ℕ → ℕ → ℕ → List Reading → List Reading → Option ℕ → Type 0
IsSurplus None count room gone rest place =
    (length (corners_in gone) ≤ room)
    × (place ≡ option_map (λ k. count + k) (corner_at (room - length (corners_in gone)) rest))
IsSurplus (Some found) count room gone rest place =
    (found < count) × (room < length (corners_in gone)) × (place ≡ Some found)

-- so many lines of a volume were gone over, and all of them fit
pub record IsGoing (lines rest : List Reading) (room : ℕ) (part : Part) : Type 0 where
  pub gone : List Reading
  pub says : Says part.draft gone
  pub count : part.lines ≡ length gone
  pub volume : volume_of lines ≡ gone ++ volume_of rest
  pub volumes : (parted lines).1 ≡ (parted rest).1
  pub none_yet : part.misfit ≡ None
  pub misfit : misfit_after [] (volume_of lines)
      ≡ option_map (λ k. part.lines + k) (misfit_after gone (volume_of rest))
  pub surplus : IsSurplus part.surplus part.lines room gone (volume_of rest)
      (corner_at room (volume_of lines))
