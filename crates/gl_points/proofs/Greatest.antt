-- The greatest of a figure of some performances, one after another.
use Rattle.std.proofs.Common.{◌≡◌, refl, sym, ap, ◌∙◌, ℕ, ◌+◌, ◌<◌, Bool, true, false, List, [], ◌∷◌, ◌++◌, length, map, filter, take, get_or, cond, arith}
use Rattle.std.proofs.lemmas.List.{append-nil, map-append}
use Rattle.std.proofs.lemmas.List.Elements.{All-push, All-weaker, Contains-append_left, Contains-push, filter_more}
use Rattle.std.proofs.lemmas.Bool.Decides.{nat_tests}
use Rattle.gl_points.specs.declared.performance.Performance.{Performance}
use Rattle.gl_points.specs.Fraction.{Fraction, IsAtMost, is_at_most, whole}
use Rattle.gl_points.specs.Code.Fractions.{greater}
use Rattle.gl_points.specs.Figures.{IsGreatestFigure}
use Rattle.gl_points.proofs.Orders.{at_most_trans}

greatest_tested : (figure : Performance → Fraction) (list : List Performance) (p : Performance) (best : Fraction) (test : Bool) → is_at_most best (figure p) ≡ test → 0 < best.den
    → IsGreatestFigure figure list best → IsGreatestFigure figure (list ++ p ∷ []) (cond test (figure p) best)
greatest_tested figure list p best true is divides so_far =
    let grows : IsAtMost best (figure p) = grind (arith, nat_tests) in
    record {
      among = rw map-append (Contains-push (whole 0 ∷ map figure list) (figure p));
      above = All-push (λ (q : Performance). IsAtMost (figure q) (figure p)) list p
          (All-weaker (λ (q : Performance). IsAtMost (figure q) best) (λ (q : Performance). IsAtMost (figure q) (figure p))
          (λ q low. at_most_trans (figure q) best (figure p) divides low grows) list so_far.above) (omega arith);
    }
greatest_tested figure list p best false is divides so_far =
    let keeps : IsAtMost (figure p) best = grind (arith, nat_tests) in
    record {
      among = rw map-append (Contains-append_left (whole 0 ∷ map figure list) (figure p ∷ []) best so_far.among);
      above = All-push (λ (q : Performance). IsAtMost (figure q) best) list p so_far.above keeps;
    }

-- the greatest of those that are kept, after one that is
pub greatest_kept : (figure : Performance → Fraction) (keep : Performance → Bool) (list : List Performance) (i : ℕ) (p : Performance) (best : Fraction) → i < length list → p ≡ get_or list i p
    → keep p ≡ true → 0 < best.den → IsGreatestFigure figure (filter keep (take i list)) best → IsGreatestFigure figure (filter keep (take (i + 1) list)) (greater best (figure p))
greatest_kept figure keep list i p best within at kept divides so_far =
    let more : filter keep (take (i + 1) list) ≡ filter keep (take i list) ++ p ∷ [] = filter_more keep list i p within
    ∙ ap (λ (q : Performance). filter keep (take i list) ++ cond (keep q) (q ∷ []) []) (sym at) ∙ ap (λ (b : Bool). filter keep (take i list) ++ cond b (p ∷ []) []) kept in
    rw more (greatest_tested figure (filter keep (take i list)) p best _ refl divides so_far)

-- the same, after one that isn't
pub greatest_passed : (figure : Performance → Fraction) (keep : Performance → Bool) (list : List Performance) (i : ℕ) (p : Performance) (best : Fraction) → i < length list → p ≡ get_or list i p
    → keep p ≡ false → IsGreatestFigure figure (filter keep (take i list)) best → IsGreatestFigure figure (filter keep (take (i + 1) list)) best
greatest_passed figure keep list i p best within at passed so_far =
    let more : filter keep (take (i + 1) list) ≡ filter keep (take i list) = filter_more keep list i p within
    ∙ ap (λ (q : Performance). filter keep (take i list) ++ cond (keep q) (q ∷ []) []) (sym at) ∙ ap (λ (b : Bool). filter keep (take i list) ++ cond b (p ∷ []) []) passed
    ∙ append-nil (filter keep (take i list)) in
    rw more so_far
