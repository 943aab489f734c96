-- The least of some numbers is one of them, and none is below it.
use Rattle.std.proofs.Common.{ℕ, ◌≤◌, List, [], ◌∷◌, map, min, arith}
use Rattle.std.specs.Prelude.{fold, unwrap_or}
use Rattle.std.specs.List.{reduce}
use Rattle.gl_points.specs.declared.performance.Performance.{Performance}
use Rattle.gl_points.specs.Limits.{handicap_limit}

pub fold_min_low : (x : ℕ) (xs : List ℕ) → fold min x xs ≤ x
fold_min_low x [] = omega arith
fold_min_low x (y ∷ ys) =
    let low : fold min (min x y) ys ≤ min x y = fold_min_low (min x y) ys in omega arith

-- the least handicap is within the limit
pub handicap_low : (ps : List Performance) → unwrap_or (reduce min (map (λ p. p.handicap) ps)) 0 ≤ handicap_limit
handicap_low [] = omega arith
handicap_low (p ∷ ps) = omega (arith, fold_min_low p.handicap (map (λ p. p.handicap) ps), p.handicap_at_most)
