-- The program's factor of a day, and the share of a speed where somebody flew.
use Rattle.std.proofs.Common.{◌≡◌, ap, ◌+◌, ◌*◌, min, max, false, ◌==◌, cond, arith}
use Rattle.std.proofs.lemmas.Bool.Decides.{nat_tests}
use Rattle.gl_points.specs.declared.performance.Performance.{Performance}
use Rattle.gl_points.specs.declared.summary.Summary.{Summary}
use Rattle.gl_points.specs.Figures.{handicapped_speed}
use Rattle.gl_points.specs.Fraction.{◌÷◌, ◌⊗◌, ◌⊘◌, ◌⊖◌, whole, IsSame}
use Rattle.gl_points.specs.Points.{completion_factor, day_factor, share_of_speed}
use Rattle.gl_points.specs.Worth.{worth}
use Rattle.gl_points.proofs.Parts.{factors_same}

pub share_of_speed-some : (day : Summary) (p : Performance) → (day.speed.num ≡ 0 → ⊥)
    → share_of_speed day p ≡ (handicapped_speed day.handicap p ⊖ (2 ÷ 3) ⊗ worth day.speed) ⊘ ((1 ÷ 3) ⊗ worth day.speed)
unfolding share_of_speed
share_of_speed-some day p some = let no : (day.speed.num == 0) ≡ false = grind (arith, nat_tests) in
    ap (λ b. cond b (whole 0) ((handicapped_speed day.handicap p ⊖ (2 ÷ 3) ⊗ worth day.speed) ⊘ ((1 ÷ 3) ⊗ worth day.speed))) no

pub factor_same : (day : Summary) → IsSame (min (5 * day.far) (6 * day.fast + 3 * day.far) ÷ max (4 * day.launched) (5 * day.far)) (day_factor day ⊗ completion_factor day)
unfolding day_factor completion_factor
factor_same day = factors_same day.launched day.far day.fast
