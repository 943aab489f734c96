-- What is divided by is above 0 in the fractions of a performance's points.
use Rattle.std.proofs.Common.{◌≡◌, refl, ℕ, ◌*◌, ◌<◌, ◌≤◌, Bool, true, false, ◌==◌, cond, arith, IsTrue}
use Rattle.std.proofs.Math.Nat.{mul-le-mul}
use Rattle.std.proofs.lemmas.Bool.Decides.{nat_tests}
use Rattle.gl_points.specs.declared.performance.Performance.{Performance}
use Rattle.gl_points.specs.declared.summary.Summary.{Summary}
use Rattle.gl_points.specs.Figures.{handicapped_speed}
use Rattle.gl_points.specs.Fraction.{Fraction, ◌÷◌, ◌⊗◌, ◌⊘◌, ◌⊕◌, ◌⊖◌, is_at_most, lesser, whole}
use Rattle.gl_points.specs.Points.{day_factor, completion_factor, exact_points, most_for_distance, most_for_speed, points_of_finisher, points_of_outlanding, share_of_speed}
use Rattle.gl_points.specs.Worth.{worth}

product_above : (a b : ℕ) → 0 < a → 0 < b → 0 < a * b
product_above a b first second = let h : 1 * 1 ≤ a * b = mul-le-mul first second in omega (arith, h)

pub lesser_above : (a b : Fraction) → 0 < a.den → 0 < b.den → 0 < (lesser a b).den
lesser_above a b first second = elim (is_at_most a b) as (λ t. 0 < (cond t a b).den) [ true ↦ first | false ↦ second ]

day_factor_above : (day : Summary) → 0 < day.launched → 0 < (day_factor day).den
unfolding day_factor
day_factor_above day launched = lesser_above (whole 1) ((5 ÷ 4) ⊗ (day.far ÷ day.launched)) (omega arith) (omega arith)

completion_factor_above : (day : Summary) → 0 < day.far → 0 < (completion_factor day).den
unfolding completion_factor
completion_factor_above day far = lesser_above (whole 1) ((6 ÷ 5) ⊗ (day.fast ÷ day.far) ⊕ (3 ÷ 5)) (omega arith) (omega arith)

most_for_speed_above : (day : Summary) → 0 < day.launched → 0 < (most_for_speed day).den
unfolding most_for_speed
most_for_speed_above day launched = product_above (3 * day.launched) day.most.den (omega arith) day.most.divides

pub most_for_distance_above : (day : Summary) → 0 < day.launched → 0 < (most_for_distance day).den
unfolding most_for_distance
most_for_distance_above day launched = product_above day.most.den (most_for_speed day).den day.most.divides (most_for_speed_above day launched)

share_tested : (day : Summary) (p : Performance) (test : Bool) → (day.speed.num == 0) ≡ test → IsTrue p.finished
    → 0 < (cond test (whole 0) ((handicapped_speed day.handicap p ⊖ (2 ÷ 3) ⊗ worth day.speed) ⊘ ((1 ÷ 3) ⊗ worth day.speed))).den
share_tested day p true none finished = omega arith
share_tested day p false some finished =
    let speed : 0 < day.speed.num = grind (arith, nat_tests) in
    let time = product_above p.handicap p.seconds p.handicap_at_least (p.seconds_at_least finished) in
    let below = product_above (p.handicap * p.seconds) (3 * day.speed.den) time (omega (arith, day.speed.divides)) in
    product_above (p.handicap * p.seconds * (3 * day.speed.den)) (1 * day.speed.num) below (omega arith)

share_of_speed_above : (day : Summary) (p : Performance) → IsTrue p.finished → 0 < (share_of_speed day p).den
unfolding share_of_speed
share_of_speed_above day p finished = share_tested day p (day.speed.num == 0) refl finished

finisher_above : (day : Summary) (p : Performance) → 0 < day.launched → IsTrue p.finished → 0 < (points_of_finisher day p).den
unfolding points_of_finisher
finisher_above day p launched finished =
    product_above ((most_for_speed day).den * (share_of_speed day p).den) (most_for_distance day).den
    (product_above (most_for_speed day).den (share_of_speed day p).den (most_for_speed_above day launched) (share_of_speed_above day p finished)) (most_for_distance_above day launched)

outlanding_above : (day : Summary) (p : Performance) → 0 < day.launched → 0 < day.distance.num → 0 < (points_of_outlanding day p).den
unfolding points_of_outlanding
outlanding_above day p launched some =
    product_above (most_for_distance day).den (p.handicap * day.distance.num) (most_for_distance_above day launched) (product_above p.handicap day.distance.num p.handicap_at_least some)

written_above : (day : Summary) (p : Performance) (test : Bool) → p.finished ≡ test → 0 < day.launched → 0 < day.distance.num
    → 0 < (cond test (points_of_finisher day p) (points_of_outlanding day p)).den
written_above day p true is launched some = finisher_above day p launched is
written_above day p false is launched some = outlanding_above day p launched some

pub exact_points_above : (day : Summary) (p : Performance) → 0 < day.far → 0 < day.distance.num → 0 < (exact_points day p).den
unfolding exact_points
exact_points_above day p far some =
    let launched : 0 < day.launched = omega (arith, day.far_at_most) in
    product_above ((day_factor day).den * (completion_factor day).den) (cond p.finished (points_of_finisher day p) (points_of_outlanding day p)).den
    (product_above (day_factor day).den (completion_factor day).den (day_factor_above day launched) (completion_factor_above day far)) (written_above day p p.finished refl launched some)
