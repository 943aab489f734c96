-- A cell of single places.
use Rattle.std.proofs.Common.{◌≡◌, sym, ap, refl, ℕ, suc, List, [], ◌∷◌, map, arith}
use Rattle.gl_box.specs.Cell.{point}
use Rattle.gl_box.specs.Halves.{IsSingle}

-- a cell of single places is that of its low ends
pub single_low : (cell : List (ℕ × ℕ)) → IsSingle cell → cell ≡ point (map (λ span. span.0) cell)
single_low [] single = refl
single_low (s ∷ ss) single =
    let here : s.0 ≡ s.1 = single 0 s (omega arith) in
    let rest = single_low ss (λ k d below. single (suc k) d (omega arith)) in
    λ i. (s.0, sym here i) ∷ rest i

pub point_low : (tuple : List ℕ) → map (λ (span : ℕ × ℕ). span.0) (point tuple) ≡ tuple
point_low [] = refl
point_low (place ∷ places) = ap (λ (ps : List ℕ). place ∷ ps) (point_low places)
