-- What is known from lines: with a line more, and of all lines of a claim.
use Rattle.std.proofs.Common.{◌≡◌, ◌∙◌, sym, ap, refl, ℕ, List, [], ◌∷◌, ◌++◌, map, append_assoc, Option, Some, None}
use Rattle.std.proofs.lemmas.List.{append-nil}
use Rattle.gl_near.specs.Line.{EndLine, HeadingLine, LeastLine, Line, PairLine, box_line, lines_of}
use Rattle.gl_near.specs.LineCheck.{Known, known_from, known_of, known_with}
use Rattle.gl_near.specs.declared.found.NearBest.{NearBest}
use Rattle.gl_near.specs.declared.found.NearWhy.{NearWhy}

-- a line more is known
pub known_more : (known : Known) (lines : List Line) (line : Line) → known_from known (lines ++ line ∷ []) ≡ known_with (known_from known lines) line
known_more known [] line = refl
known_more known (first ∷ lines) line = known_more (known_with known first) lines line

boxes_known : (known : Known) (boxes : List (List (ℕ × ℕ) × NearWhy))
    → known_from known (map box_line boxes ++ EndLine ∷ []) ≡ record { total = known.total; best = known.best; boxes = known.boxes ++ boxes }
boxes_known known [] = ap (λ (b : List (List (ℕ × ℕ) × NearWhy)). record { total = known.total; best = known.best; boxes = b }) (sym (append-nil known.boxes))
boxes_known known (box ∷ boxes) =
    boxes_known (known_with known (box_line box)) boxes
    ∙ ap (λ (b : List (List (ℕ × ℕ) × NearWhy)). record { total = known.total; best = known.best; boxes = b }) (append_assoc known.boxes (box ∷ []) boxes)

-- a claim is known from its lines
pub claim_known : (best : Option NearBest) (boxes : List (List (ℕ × ℕ) × NearWhy)) → let known = known_of (HeadingLine ∷ lines_of best boxes) in (known.best ≡ best) × (known.boxes ≡ boxes)
claim_known None boxes =
    let is = boxes_known (known_of (HeadingLine ∷ LeastLine None ∷ [])) boxes in (ap (λ (k : Known). k.best) is, ap (λ (k : Known). k.boxes) is)
claim_known (Some best) boxes =
    let is = boxes_known (known_of (HeadingLine ∷ LeastLine (Some best.total) ∷ PairLine best.first best.second ∷ [])) boxes in (ap (λ (k : Known). k.best) is, ap (λ (k : Known). k.boxes) is)
