-- How the lines of a volume are gone over, and the draft that the code makes of them.
use Rattle.std.specs.Prelude.{◌≡◌, is_some, List, map, option_map, ℕ, ◌+◌, true, false, [], ◌∷◌, ◌++◌, Option, ⊤}
use Rattle.gl_sphere.specs.PlaceText.{place_of}
use Rattle.gl_airspace.specs.Draft.{IsCircle}
use Rattle.gl_airspace.specs.Volumes.{Reading, floor_in, ceiling_in, centre_in, corners_in, radius_in, circle_in, begins, fits}
use Rattle.gl_airspace.specs.declared.draft.Draft.{Draft}
use Rattle.gl_airspace.specs.declared.step.Step as code
use Rattle.gl_airspace.specs.declared.step.Step.TheVariants.{Begins, Fits, Misfits}

-- a draft keeps what the lines of a volume say
pub record Says (draft : Draft) (lines : List Reading) : Type 0 where
  pub floor : draft.floor ≡ floor_in lines
  pub ceiling : draft.ceiling ≡ ceiling_in lines
  pub centre : option_map place_of draft.centre ≡ centre_in lines
  pub corners : map place_of draft.corners.items ≡ corners_in lines
  pub has_circle : is_some draft.circle ≡ is_some (radius_in lines)
  pub circle : IsCircle draft.circle (circle_in lines)

-- what a line is behind the lines of a volume: the beginning of the next one, one that fits, or one
-- that doesn't
abbrev pub IsStep : List Reading → Reading → code.Step → Type 0
IsStep lines line Begins = begins line ≡ true
IsStep lines line Fits = (begins line ≡ false) × (fits lines line ≡ true)
IsStep lines line Misfits = (begins line ≡ false) × (fits lines line ≡ false)

-- a draft says a line that fits, too, and stays as it was where the next volume begins
abbrev pub SaysAfter : Draft → List Reading → Reading → code.Step → Type 0
SaysAfter draft lines line Begins = Says draft lines
SaysAfter draft lines line Fits = Says draft (lines ++ line ∷ [])
SaysAfter draft lines line Misfits = ⊤

-- the number of the line at a place among the lines of a volume that begins at a line
abbrev pub number_at : ℕ → Option ℕ → Option ℕ
number_at first place = option_map (λ k. first + 1 + k) place
