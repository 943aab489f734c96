-- A check of the text of a proof whose lines come one by one: what the lines say so far.
use Rattle.std.specs.Prelude.{◌≡◌, ℕ, List, [], ◌∷◌, ◌++◌, Option, None, Some}
use Rattle.gl_near.specs.Line.{BoxLine, EndLine, HeadingLine, LeastLine, Line, PairLine}
use Rattle.gl_near.specs.Pairing.{Pairing}
use Rattle.gl_near.specs.Pairs.{pairing_of}
use Rattle.gl_near.specs.Testing.{HasTaken}
use Rattle.gl_near.specs.declared.found.NearBest.{NearBest}
use Rattle.gl_near.specs.declared.found.NearWhy.{NearWhy}
use Rattle.gl_near.specs.declared.line_check.NearCheck.{NearCheck}

-- the least distance and the pair that has it, where they came, and the boxes
pub record Known : Type 0 where
  pub total : Option ℕ
  pub best : Option NearBest
  pub boxes : List (List (ℕ × ℕ) × NearWhy)

-- a pair that has the least distance, where there is one
abbrev pub best_with : Option ℕ → ℕ → ℕ → Option NearBest
best_with None first second = None
best_with (Some total) first second =
    Some (record { total = total; first = first; second = second })

-- what is known with a line more; the boxes stand behind the pair
abbrev pub known_with : Known → Line → Known
known_with known HeadingLine = known
known_with known (LeastLine total) =
    record { total = total; best = known.best; boxes = known.boxes }
known_with known (PairLine first second) =
    record { total = known.total; best = best_with known.total first second; boxes = [] }
known_with known (BoxLine why spans) =
    record { total = known.total; best = known.best; boxes = known.boxes ++ (spans, why) ∷ [] }
known_with known EndLine = known

abbrev pub known_from : Known → List Line → Known
known_from known [] = known
known_from known (line ∷ lines) = known_from (known_with known line) lines

-- what some lines say
abbrev pub known_of : List Line → Known
known_of lines = known_from (record { total = None; best = None; boxes = [] }) lines

-- a check by some pairs has taken what is known, and can go on
pub record IsKnown (pairing : Pairing) (known : Known) (check : NearCheck) : Type 0 where
  pub pairs : pairing_of check.boxes.test.pairs.now ≡ pairing
  pub total : check.total ≡ known.total
  pub best : check.boxes.test.best ≡ known.best
  pub boxes : HasTaken known.boxes check.boxes

-- it has taken these lines
abbrev pub HasTakenLines : Pairing → List Line → NearCheck → Type 0
HasTakenLines pairing lines check = IsKnown pairing (known_of lines) check
