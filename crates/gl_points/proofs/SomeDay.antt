-- The performances of a day have figures, and these decide its points.
use Rattle.std.proofs.Common.{◌≡◌, refl, ℕ, zero, suc, ◌*◌, ◌≤◌, Bool, true, false, List, [], ◌∷◌, length, map, filter, get_or, cond, Option, None, Some, arith, IsTrue}
use Rattle.std.specs.Prelude.{All, Contains}
use Rattle.std.proofs.Math.Nat.{le_of_mul-le-mul_left, mul-le-mul, mul-le-mul_right}
use Rattle.std.proofs.lemmas.Bool.Decides.{nat_tests}
use Rattle.std.proofs.lemmas.List.Elements.{All-cons, All-head, All-nil, All-tail, All-weaker, filter_passes}
use Rattle.std.proofs.lemmas.List.Sorted.{IsPermutation-refl}
use Rattle.gl_points.specs.declared.performance.Performance.{Performance}
use Rattle.gl_points.specs.declared.summary.Summary.{Summary}
use Rattle.gl_points.specs.Summary.{IsSummaryOf, finishers_of, launched_of, least_handicap, most_points_of_day, points_by_distance, points_by_time}
use Rattle.gl_points.specs.Figures.{IsGreatestFigure, handicapped_distance, handicapped_speed, is_far, is_fast, is_fastest, least_number}
use Rattle.gl_points.specs.Fraction.{Fraction, IsAtMost, is_at_most, lesser, whole}
use Rattle.gl_points.specs.Limits.{distance_limit, handicap_limit, performance_limit, point_limit, time_limit}
use Rattle.gl_points.specs.Points.{points_earned}
use Rattle.gl_points.proofs.AnyOrder.{same_in_any_order}
use Rattle.gl_points.proofs.Counts.{fast_launched, filter_low}
use Rattle.gl_points.proofs.Least.{handicap_low}
use Rattle.gl_points.proofs.Orders.{at_most_itself, at_most_trans}

-- the points of a performance are the same by any two figures of the same performances
pub points_same : (list : List Performance) (one other : Summary) (p : Performance) → Contains list p → IsSummaryOf list one → IsSummaryOf list other → points_earned one p ≡ points_earned other p
points_same list one other p among first second = same_in_any_order other p list list one second among (IsPermutation-refl list) first

-- a fraction within bounds
record IsBounded (num den : ℕ) (f : Fraction) : Type 0 where
  num_low : f.num ≤ num
  den_low : f.den ≤ den
  divides : 1 ≤ f.den

later : {X : Type 0} (x y : X) (xs : List X) (z : X) → Contains (x ∷ xs) z → Contains (x ∷ y ∷ xs) z
later x y xs z (zero, within, at) = (0, omega arith, at)
later x y xs z (suc k, within, at) = (suc (suc k), omega (arith, within), at)

-- the greatest of one figure more
greatest_tested : (num den : ℕ) (figure : Performance → Fraction) (p : Performance) (ps : List Performance) (best : Fraction) (test : Bool) → is_at_most best (figure p) ≡ test
    → IsBounded num den (figure p) → IsBounded num den best → IsGreatestFigure figure ps best → (greatest : Fraction) × IsBounded num den greatest × IsGreatestFigure figure (p ∷ ps) greatest
greatest_tested num den figure p ps best true is here there greatest =
    let grows : IsAtMost best (figure p) = grind (arith, nat_tests) in (
      figure p,
      here,
      record {
        among = (1, omega arith, refl);
        above = All-cons (λ (q : Performance). IsAtMost (figure q) (figure p)) p ps (at_most_itself (figure p))
            (All-weaker (λ (q : Performance). IsAtMost (figure q) best) (λ (q : Performance). IsAtMost (figure q) (figure p))
            (λ q low. at_most_trans (figure q) best (figure p) there.divides low grows) ps greatest.above);
      },
    )
greatest_tested num den figure p ps best false is here there greatest =
    let keeps : IsAtMost (figure p) best = grind (arith, nat_tests) in (
      best,
      there,
      record {
        among = later (whole 0) (figure p) (map figure ps) best greatest.among;
        above = All-cons (λ (q : Performance). IsAtMost (figure q) best) p ps keeps greatest.above;
      },
    )

-- a figure of some performances has a greatest
some_greatest : (num den : ℕ) (figure : Performance → Fraction) (list : List Performance) → 1 ≤ den → All (λ p. IsBounded num den (figure p)) list
    → (greatest : Fraction) × IsBounded num den greatest × IsGreatestFigure figure list greatest
some_greatest num den figure [] some bounded =
    (whole 0, record { num_low = omega arith; den_low = some; divides = omega arith }, record { among = (0, omega arith, refl); above = All-nil (λ p. IsAtMost (figure p) (whole 0)) })
some_greatest num den figure (p ∷ ps) some bounded =
    let rest = some_greatest num den figure ps some (All-tail (λ q. IsBounded num den (figure q)) p ps bounded) in
    greatest_tested num den figure p ps rest.0 (is_at_most rest.0 (figure p)) refl (All-head (λ q. IsBounded num den (figure q)) p ps bounded) rest.1 rest.2

distance_bounded : (least : ℕ) (p : Performance) → least ≤ handicap_limit → IsBounded (distance_limit * handicap_limit) handicap_limit (handicapped_distance least p)
distance_bounded least p low = record {
  num_low = mul-le-mul p.metres_at_most low;
  den_low = p.handicap_at_most;
  divides = p.handicap_at_least;
}

speed_bounded : (least : ℕ) (p : Performance) → least ≤ handicap_limit → IsTrue p.finished → IsBounded (distance_limit * handicap_limit) (handicap_limit * time_limit) (handicapped_speed least p)
speed_bounded least p low finished =
    let divides : 1 * 1 ≤ p.handicap * p.seconds = mul-le-mul p.handicap_at_least (p.seconds_at_least finished) in
    record {
      num_low = mul-le-mul p.metres_at_most low;
      den_low = mul-le-mul p.handicap_at_most p.seconds_at_most;
      divides = omega (arith, divides);
    }

-- a fraction that can be the most points of a day
record IsMost (f : Fraction) : Type 0 where
  num_low : f.num ≤ point_limit * f.den
  den_low : f.den ≤ 200 * handicap_limit
  divides : 1 ≤ f.den

lesser_most : (a b : Fraction) (test : Bool) → is_at_most a b ≡ test → IsMost a → 1 ≤ b.den → b.den ≤ 200 * handicap_limit → IsMost (cond test a b)
lesser_most a b true is most divides low = most
lesser_most a b false is most divides low =
    let under : b.num * a.den ≤ a.num * b.den = grind (arith, nat_tests) in
    let held : a.num * b.den ≤ point_limit * a.den * b.den = mul-le-mul_right b.den most.num_low in
    let both : a.den * b.num ≤ a.den * (point_limit * b.den) = omega arith in
    record { num_low = le_of_mul-le-mul_left both most.divides; den_low = low; divides = divides }

distance_most : (distance : Fraction) → 1 ≤ distance.den → distance.den ≤ handicap_limit → IsMost (lesser (whole point_limit) (points_by_distance distance))
distance_most distance divides low =
    lesser_most (whole point_limit) (points_by_distance distance) (is_at_most (whole point_limit) (points_by_distance distance)) refl
    (record { num_low = omega arith; den_low = omega arith; divides = omega arith }) (omega arith) (omega arith)

most_of_day : (distance : Fraction) (time : Option ℕ) → 1 ≤ distance.den → distance.den ≤ handicap_limit → IsMost (most_points_of_day distance time)
most_of_day distance None divides low = distance_most distance divides low
most_of_day distance (Some time) divides low =
    let most = lesser (whole point_limit) (points_by_distance distance) in
    lesser_most most (points_by_time time) (is_at_most most (points_by_time time)) refl (distance_most distance divides low) (omega arith) (omega arith)

-- at most 256 performances have the figures of a day
pub some_day : (list : List Performance) → length list ≤ performance_limit → (day : Summary) × IsSummaryOf list day
some_day list few =
    let launched = launched_of list in
    let finishers = finishers_of list in
    let least = least_handicap list in
    let low : least ≤ handicap_limit = handicap_low launched in
    let distance = some_greatest (distance_limit * handicap_limit) handicap_limit (handicapped_distance least) launched (omega arith)
    (λ k d within. distance_bounded least (get_or launched k d) low) in
    let speed = some_greatest (distance_limit * handicap_limit) (handicap_limit * time_limit) (handicapped_speed least) finishers (omega arith)
    (λ k d within. speed_bounded least (get_or finishers k d) low (filter_passes (λ (p : Performance). p.finished) list k d within)) in
    let time = least_number (map (λ (p : Performance). p.seconds) (filter (is_fastest least speed.0) finishers)) in
    let fits = most_of_day distance.0 time distance.1.divides distance.1.den_low in
    let most = most_points_of_day distance.0 time in
    let day : Summary = record {
      launched = length launched;
      far = length (filter (is_far least) launched);
      fast = length (filter (is_fast least speed.0) finishers);
      handicap = least;
      distance = record { num = distance.0.num; den = distance.0.den; divides = distance.1.divides };
      speed = record { num = speed.0.num; den = speed.0.den; divides = speed.1.divides };
      time = time;
      most = record { num = most.num; den = most.den; divides = fits.divides };
      launched_at_most = omega (arith, few, filter_low (λ (p : Performance). p.launched) list);
      far_at_most = filter_low (is_far least) launched;
      fast_at_most = fast_launched (is_fast least speed.0) list;
      handicap_at_most = low;
      distance_num_at_most = distance.1.num_low;
      distance_den_at_most = distance.1.den_low;
      speed_num_at_most = speed.1.num_low;
      speed_den_at_most = speed.1.den_low;
      most_at_most = fits.num_low;
      most_den_at_most = fits.den_low;
    } in (
      day,
      record {
        launched = refl;
        handicap = refl;
        distance = distance.2;
        far = refl;
        speed = speed.2;
        fast = refl;
        time = refl;
        most = refl {a = most};
      },
    )
