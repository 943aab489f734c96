-- The points are the same whatever order the performances come in.
use Rattle.std.proofs.Common.{◌≡◌, refl, sym, ap, subst, ◌∙◌, ℕ, ◌*◌, ◌<◌, ◌≤◌, Bool, true, false, ◌==◌, not, ◌||◌, List, length, map, filter, filter, cond, Option, Some, None, unwrap_or, arith}
use Rattle.std.specs.Prelude.{All}
use Rattle.std.specs.List.Sorted.{IsPermutation}
use Rattle.std.proofs.Math.Nat.{le-mul_of_pos_right}
use Rattle.std.proofs.lemmas.Bool.Decides.{nat_tests}
use Rattle.std.proofs.lemmas.List.Elements.{filter_agree}
use Rattle.std.proofs.lemmas.List.Sorted.{All-permutation, IsPermutation-sym}
use Rattle.gl_points.specs.declared.performance.Performance.{Performance}
use Rattle.gl_points.specs.declared.summary.Summary.{Summary}
use Rattle.gl_points.specs.Summary.{IsSummaryOf, finishers_of, launched_of, most_points_of_day, points_by_distance, points_by_time}
use Rattle.gl_points.specs.Figures.{IsGreatestFigure, handicapped_distance, handicapped_speed, is_far, is_fast, is_fastest, least_number}
use Rattle.gl_points.specs.Fraction.{Fraction, ◌÷◌, ◌⊗◌, ◌⊘◌, ◌⊕◌, ◌⊖◌, IsAtMost, is_at_most, lesser, rounded, whole, IsSame}
use Rattle.gl_points.specs.Laws.{IsSameInAnyOrder}
use Rattle.gl_points.specs.Points.{day_factor, completion_factor, exact_points, most_for_distance, most_for_speed, points_earned, points_of_finisher, points_of_outlanding, share_of_speed}
use Rattle.gl_points.specs.Worth.{worth}
use Rattle.gl_points.proofs.Alike.{also_filtered, also_mapped, at_most_alike, count_alike, count_both_alike, greatest_alike, least_alike, same_alike, tests_alike}
use Rattle.gl_points.proofs.Divided.{exact_points_above, lesser_above}
use Rattle.gl_points.proofs.Held.{some_distance}
use Rattle.gl_points.proofs.Orders.{at_most_from, at_most_itself, at_most_trans, less_at_most, over_at_most, plus_at_most, rounded_at_most, same_from, same_sym, times_at_most, times_same}

-- two days of one value
record AreAlike (day again : Summary) : Type 0 where
  launched : again.launched ≡ day.launched
  far : again.far ≡ day.far
  fast : again.fast ≡ day.fast
  handicap : again.handicap ≡ day.handicap
  distance : IsSame (worth again.distance) (worth day.distance)
  speed : IsSame (worth again.speed) (worth day.speed)
  most : IsSame (worth again.most) (worth day.most)

-- the lesser of two grows with both
lesser_tested : (a b c d : Fraction) (first second : Bool) → 0 < a.den → 0 < b.den → 0 < c.den → 0 < d.den → is_at_most a b ≡ first → is_at_most c d ≡ second → IsAtMost a c → IsAtMost b d
    → IsAtMost (cond first a b) (cond second c d)
lesser_tested a b c d true true u v w x is are left right = left
lesser_tested a b c d true false u v w x is are left right = let h : IsAtMost a b = grind (arith, nat_tests) in at_most_trans a b d v h right
lesser_tested a b c d false true u v w x is are left right = let h : IsAtMost b a = grind (arith, nat_tests) in at_most_trans b a c u h left
lesser_tested a b c d false false u v w x is are left right = right

lesser_at_most : (a b c d : Fraction) → 0 < a.den → 0 < b.den → 0 < c.den → 0 < d.den → IsAtMost a c → IsAtMost b d → IsAtMost (lesser a b) (lesser c d)
lesser_at_most a b c d u v w x left right = lesser_tested a b c d (is_at_most a b) (is_at_most c d) u v w x refl refl left right

-- the most points grow with the greatest distance
most_at_most : (distance other : Fraction) (time : Option ℕ) → 0 < distance.den → 0 < other.den → IsAtMost distance other → IsAtMost (most_points_of_day distance time) (most_points_of_day other time)
most_at_most distance other None first second low =
    let grows = less_at_most (distance ⊘ whole 200) (other ⊘ whole 200) (whole 250) (whole 250) (over_at_most distance other (whole 200) (whole 200) low (at_most_itself (whole 200)))
    (at_most_itself (whole 250)) in
    lesser_at_most (whole 1_000) (points_by_distance distance) (whole 1_000) (points_by_distance other) (omega arith) (omega arith) (omega arith) (omega arith) (at_most_itself (whole 1_000)) grows
most_at_most distance other (Some time) first second low =
    let grows = less_at_most (distance ⊘ whole 200) (other ⊘ whole 200) (whole 250) (whole 250) (over_at_most distance other (whole 200) (whole 200) low (at_most_itself (whole 200)))
    (at_most_itself (whole 250)) in
    let inner = lesser_at_most (whole 1_000) (points_by_distance distance) (whole 1_000) (points_by_distance other) (omega arith) (omega arith) (omega arith) (omega arith)
    (at_most_itself (whole 1_000)) grows in
    lesser_at_most (lesser (whole 1_000) (points_by_distance distance)) (points_by_time time) (lesser (whole 1_000) (points_by_distance other)) (points_by_time time)
    (lesser_above (whole 1_000) (points_by_distance distance) (omega arith) (omega arith)) (omega arith) (lesser_above (whole 1_000) (points_by_distance other) (omega arith) (omega arith))
    (omega arith) inner (at_most_itself (points_by_time time))

-- the greatest of a figure is one number in any order
greatest_same : (figure : Performance → Fraction) (test : Performance → Bool) (list other : List Performance) (first second : Fraction) → IsPermutation list other
    → IsGreatestFigure figure (filter test list) first → IsGreatestFigure figure (filter test other) second → IsSame second first
greatest_same figure test list other first second same ours theirs =
    let back = IsPermutation-sym list other same in
    same_from second first
    (greatest_alike figure (filter test other) (filter test list) second first (also_filtered test list other (λ P. All-permutation P list other same)) theirs ours)
    (greatest_alike figure (filter test list) (filter test other) first second (also_filtered test other list (λ P. All-permutation P other list back)) ours theirs)

-- the figures of a day are the same in any order
days_alike : (list other : List Performance) (day again : Summary) → IsPermutation list other → IsSummaryOf list day → IsSummaryOf other again → AreAlike day again
days_alike list other day again same ours theirs =
    let back = IsPermutation-sym list other same in
    let there : (P : Performance → Type 0) → All P list → All P other = λ P. All-permutation P list other same in
    let here : (P : Performance → Type 0) → All P other → All P list = λ P. All-permutation P other list back in
    let launch : Performance → Bool = λ p. p.launched in
    let finish : Performance → Bool = λ p. p.finished in
    let handicaps : Performance → ℕ = λ p. p.handicap in
    let times : Performance → ℕ = λ p. p.seconds in
    let least : least_number (map handicaps (filter launch other)) ≡ least_number (map handicaps (filter launch list)) =
    least_alike (map handicaps (filter launch list)) (map handicaps (filter launch other)) (also_mapped handicaps (filter launch list) (filter launch other) (also_filtered launch list other there))
    (also_mapped handicaps (filter launch other) (filter launch list) (also_filtered launch other list here)) in
    let handicap : again.handicap ≡ day.handicap = theirs.handicap ∙ ap (λ o. unwrap_or o 0) least ∙ sym ours.handicap in
    let distance : IsSame (worth again.distance) (worth day.distance) =
    greatest_same (handicapped_distance day.handicap) launch list other (worth day.distance) (worth again.distance) same ours.distance
    (subst (λ h. IsGreatestFigure (handicapped_distance h) (launched_of other) (worth again.distance)) handicap theirs.distance) in
    let speed : IsSame (worth again.speed) (worth day.speed) =
    greatest_same (handicapped_speed day.handicap) finish list other (worth day.speed) (worth again.speed) same ours.speed
    (subst (λ h. IsGreatestFigure (handicapped_speed h) (finishers_of other) (worth again.speed)) handicap theirs.speed) in
    let far : again.far ≡ day.far =
    theirs.far ∙ ap (λ h. length (filter (is_far h) (launched_of other))) handicap ∙ count_both_alike launch (is_far day.handicap) list other same ∙ sym ours.far in
    let two_thirds = times_same (2 ÷ 3) (2 ÷ 3) (worth again.speed) (worth day.speed) refl speed in
    let fasts : (p : Performance) → is_fast day.handicap (worth again.speed) p ≡ is_fast day.handicap (worth day.speed) p =
    λ p. ap not (at_most_alike (handicapped_speed day.handicap p) ((2 ÷ 3) ⊗ worth again.speed) ((2 ÷ 3) ⊗ worth day.speed) (omega (arith, again.speed.divides))
    (omega (arith, day.speed.divides)) two_thirds) in
    let fast : again.fast ≡ day.fast =
    theirs.fast ∙ ap (λ h. length (filter (is_fast h (worth again.speed)) (finishers_of other))) handicap
    ∙ ap length (filter_agree (is_fast day.handicap (worth again.speed)) (is_fast day.handicap (worth day.speed)) fasts (finishers_of other))
    ∙ count_both_alike finish (is_fast day.handicap (worth day.speed)) list other same ∙ sym ours.fast in
    let fastest : (p : Performance) → is_fastest day.handicap (worth again.speed) p ≡ is_fastest day.handicap (worth day.speed) p =
    λ p. same_alike (handicapped_speed day.handicap p) (worth again.speed) (worth day.speed) again.speed.divides day.speed.divides speed in
    let test = is_fastest day.handicap (worth day.speed) in
    let first = filter test (filter finish list) in
    let second = filter test (filter finish other) in
    let time : again.time ≡ day.time =
    theirs.time ∙ ap (λ h. least_number (map times (filter (is_fastest h (worth again.speed)) (finishers_of other)))) handicap
    ∙ ap (λ ps. least_number (map times ps)) (filter_agree (is_fastest day.handicap (worth again.speed)) test fastest (finishers_of other))
    ∙ least_alike (map times first) (map times second) (also_mapped times first second (also_filtered test (filter finish list) (filter finish other) (also_filtered finish list other there)))
    (also_mapped times second first (also_filtered test (filter finish other) (filter finish list) (also_filtered finish other list here)))
    ∙ sym ours.time in
    let most_again : worth again.most ≡ most_points_of_day (worth again.distance) day.time = theirs.most ∙ ap (most_points_of_day (worth again.distance)) time in
    let most : IsSame (worth again.most) (worth day.most) = subst (λ m. IsSame m (worth day.most)) (sym most_again)
    (subst (λ m. IsSame (most_points_of_day (worth again.distance) day.time) m) (sym ours.most)
    (same_from (most_points_of_day (worth again.distance) day.time) (most_points_of_day (worth day.distance) day.time)
    (most_at_most (worth again.distance) (worth day.distance) day.time again.distance.divides day.distance.divides (omega arith))
    (most_at_most (worth day.distance) (worth again.distance) day.time day.distance.divides again.distance.divides (omega arith)))) in
    record { launched = theirs.launched ∙ count_alike launch list other same ∙ sym ours.launched; far = far; fast = fast; handicap = handicap; distance = distance; speed = speed; most = most }

alike_sym : (day again : Summary) → AreAlike day again → AreAlike again day
alike_sym day again alike = record {
  launched = sym alike.launched;
  far = sym alike.far;
  fast = sym alike.fast;
  handicap = sym alike.handicap;
  distance = same_sym (worth again.distance) (worth day.distance) alike.distance;
  speed = same_sym (worth again.speed) (worth day.speed) alike.speed;
  most = same_sym (worth again.most) (worth day.most) alike.most;
}

for_speed_at_most : (day again : Summary) → AreAlike day again → IsAtMost (most_for_speed again) (most_for_speed day)
unfolding most_for_speed
for_speed_at_most day again alike =
    let base : (2 ÷ 3) ⊗ (again.fast ÷ again.launched) ≡ (2 ÷ 3) ⊗ (day.fast ÷ day.launched) = rw (alike.fast, alike.launched) refl in
    subst (λ (f : Fraction). IsAtMost (f ⊗ worth again.most) (most_for_speed day)) (sym base)
    (times_at_most ((2 ÷ 3) ⊗ (day.fast ÷ day.launched)) ((2 ÷ 3) ⊗ (day.fast ÷ day.launched)) (worth again.most) (worth day.most) (at_most_itself ((2 ÷ 3) ⊗ (day.fast ÷ day.launched)))
    (at_most_from (worth again.most) (worth day.most) alike.most))

for_distance_at_most : (day again : Summary) → AreAlike day again → IsAtMost (most_for_distance again) (most_for_distance day)
unfolding most_for_distance
for_distance_at_most day again alike =
    less_at_most (worth again.most) (worth day.most) (most_for_speed again) (most_for_speed day) (at_most_from (worth again.most) (worth day.most) alike.most)
    (for_speed_at_most again day (alike_sym day again alike))

-- a product is 0 only where a factor is
none_from : (m d n e : ℕ) → 0 < e → m * d ≡ n * e → m ≡ 0 → n ≡ 0
none_from m d n e divides same none =
    let h : n ≤ n * e = le-mul_of_pos_right {m = e} n divides in
    let k : m * d ≡ 0 = rw none (omega arith) in
    omega arith

share_at_most : (day again : Summary) (p : Performance) (none : Bool) → (day.speed.num == 0) ≡ none → (again.speed.num == 0) ≡ none → AreAlike day again
    → IsAtMost (cond none (whole 0) ((handicapped_speed again.handicap p ⊖ (2 ÷ 3) ⊗ worth again.speed) ⊘ ((1 ÷ 3) ⊗ worth again.speed)))
    (cond none (whole 0) ((handicapped_speed day.handicap p ⊖ (2 ÷ 3) ⊗ worth day.speed) ⊘ ((1 ÷ 3) ⊗ worth day.speed)))
share_at_most day again p true is are alike = omega arith
share_at_most day again p false is are alike =
    let back = same_sym (worth again.speed) (worth day.speed) alike.speed in
    let par = times_at_most (2 ÷ 3) (2 ÷ 3) (worth day.speed) (worth again.speed) (at_most_itself (2 ÷ 3)) (at_most_from (worth day.speed) (worth again.speed) back) in
    let third = times_at_most (1 ÷ 3) (1 ÷ 3) (worth day.speed) (worth again.speed) (at_most_itself (1 ÷ 3)) (at_most_from (worth day.speed) (worth again.speed) back) in
    subst (λ h. IsAtMost ((handicapped_speed h p ⊖ (2 ÷ 3) ⊗ worth again.speed) ⊘ ((1 ÷ 3) ⊗ worth again.speed))
    ((handicapped_speed day.handicap p ⊖ (2 ÷ 3) ⊗ worth day.speed) ⊘ ((1 ÷ 3) ⊗ worth day.speed))) (sym alike.handicap)
    (over_at_most (handicapped_speed day.handicap p ⊖ (2 ÷ 3) ⊗ worth again.speed) (handicapped_speed day.handicap p ⊖ (2 ÷ 3) ⊗ worth day.speed) ((1 ÷ 3) ⊗ worth again.speed)
    ((1 ÷ 3) ⊗ worth day.speed)
    (less_at_most (handicapped_speed day.handicap p) (handicapped_speed day.handicap p) ((2 ÷ 3) ⊗ worth again.speed) ((2 ÷ 3) ⊗ worth day.speed)
    (at_most_itself (handicapped_speed day.handicap p)) par) third)

finisher_at_most : (day again : Summary) (p : Performance) → AreAlike day again → IsAtMost (points_of_finisher again p) (points_of_finisher day p)
unfolding points_of_finisher share_of_speed
finisher_at_most day again p alike =
    let none : (again.speed.num == 0) ≡ (day.speed.num == 0) = tests_alike (again.speed.num == 0) (day.speed.num == 0)
    (λ is. let e : again.speed.num ≡ 0 = grind (arith, nat_tests) in let f = none_from again.speed.num day.speed.den day.speed.num again.speed.den again.speed.divides alike.speed e in
    grind (arith, nat_tests, f))
    (λ is. let e : day.speed.num ≡ 0 = grind (arith, nat_tests) in let f = none_from day.speed.num again.speed.den again.speed.num day.speed.den day.speed.divides (sym alike.speed) e in
    grind (arith, nat_tests, f)) in
    plus_at_most (most_for_speed again ⊗ share_of_speed again p) (most_for_speed day ⊗ share_of_speed day p) (most_for_distance again) (most_for_distance day)
    (times_at_most (most_for_speed again) (most_for_speed day) (share_of_speed again p) (share_of_speed day p) (for_speed_at_most day again alike)
    (subst (λ b. IsAtMost (cond b (whole 0) ((handicapped_speed again.handicap p ⊖ (2 ÷ 3) ⊗ worth again.speed) ⊘ ((1 ÷ 3) ⊗ worth again.speed))) (share_of_speed day p)) (sym none)
    (share_at_most day again p (day.speed.num == 0) refl none alike)))
    (for_distance_at_most day again alike)

outlanding_at_most : (day again : Summary) (p : Performance) → AreAlike day again → IsAtMost (points_of_outlanding again p) (points_of_outlanding day p)
unfolding points_of_outlanding
outlanding_at_most day again p alike =
    times_at_most (most_for_distance again) (most_for_distance day) (handicapped_distance again.handicap p ⊘ worth again.distance) (handicapped_distance day.handicap p ⊘ worth day.distance)
    (for_distance_at_most day again alike)
    (subst (λ h. IsAtMost (handicapped_distance h p ⊘ worth again.distance) (handicapped_distance day.handicap p ⊘ worth day.distance)) (sym alike.handicap)
    (over_at_most (handicapped_distance day.handicap p) (handicapped_distance day.handicap p) (worth again.distance) (worth day.distance) (at_most_itself (handicapped_distance day.handicap p))
    (at_most_from (worth day.distance) (worth again.distance) (same_sym (worth again.distance) (worth day.distance) alike.distance))))

factors_alike : (day again : Summary) → AreAlike day again → day_factor again ⊗ completion_factor again ≡ day_factor day ⊗ completion_factor day
unfolding day_factor completion_factor
factors_alike day again alike =
    let e : lesser (whole 1) ((5 ÷ 4) ⊗ (again.far ÷ again.launched)) ≡ lesser (whole 1) ((5 ÷ 4) ⊗ (day.far ÷ day.launched)) = ap (λ n. lesser (whole 1) ((5 ÷ 4) ⊗ (n ÷ again.launched))) alike.far
    ∙ ap (λ n. lesser (whole 1) ((5 ÷ 4) ⊗ (day.far ÷ n))) alike.launched in
    let f : lesser (whole 1) ((6 ÷ 5) ⊗ (again.fast ÷ again.far) ⊕ (3 ÷ 5)) ≡ lesser (whole 1) ((6 ÷ 5) ⊗ (day.fast ÷ day.far) ⊕ (3 ÷ 5)) =
    ap (λ n. lesser (whole 1) ((6 ÷ 5) ⊗ (n ÷ again.far) ⊕ (3 ÷ 5))) alike.fast ∙ ap (λ n. lesser (whole 1) ((6 ÷ 5) ⊗ (day.fast ÷ n) ⊕ (3 ÷ 5))) alike.far in
    ap (λ (g : Fraction). g ⊗ completion_factor again) e ∙ ap (λ (g : Fraction). day_factor day ⊗ g) f

written_at_most : (day again : Summary) (p : Performance) (finished : Bool) → AreAlike day again
    → IsAtMost (cond finished (points_of_finisher again p) (points_of_outlanding again p)) (cond finished (points_of_finisher day p) (points_of_outlanding day p))
written_at_most day again p true alike = finisher_at_most day again p alike
written_at_most day again p false alike = outlanding_at_most day again p alike

exact_alike : (day again : Summary) (p : Performance) → AreAlike day again → IsAtMost (exact_points again p) (exact_points day p)
unfolding exact_points
exact_alike day again p alike =
    let factors = day_factor day ⊗ completion_factor day in
    subst (λ (f : Fraction). IsAtMost (f ⊗ cond p.finished (points_of_finisher again p) (points_of_outlanding again p)) (exact_points day p)) (sym (factors_alike day again alike))
    (times_at_most factors factors (cond p.finished (points_of_finisher again p) (points_of_outlanding again p)) (cond p.finished (points_of_finisher day p) (points_of_outlanding day p))
    (at_most_itself factors) (written_at_most day again p p.finished alike))

-- the points where somebody flew far, else 0
points_alike : (launched none other : Bool) (m n : ℕ) → other ≡ none → (none ≡ false → m ≡ n) → cond (not launched || other) 0 m ≡ cond (not launched || none) 0 n
points_alike false none other m n same alike = refl
points_alike true true other m n same alike = rw same refl
points_alike true false other m n same alike = rw same (alike refl)

pub same_in_any_order : (day : Summary) (p : Performance) → IsSameInAnyOrder day p
unfolding points_earned
same_in_any_order day p list other again ours among same theirs =
    let alike = days_alike list other day again same ours theirs in
    points_alike p.launched (day.far == 0) (again.far == 0) (rounded (exact_points again p)) (rounded (exact_points day p)) (ap (λ n. n == 0) alike.far)
    (λ some.
    let far : 1 ≤ day.far = grind (arith, nat_tests) in
    let far_again : 1 ≤ again.far = omega (arith, alike.far) in
    let first = exact_points_above day p far (some_distance list day ours far) in
    let second = exact_points_above again p far_again (some_distance other again theirs far_again) in
    let up = rounded_at_most (exact_points again p) (exact_points day p) second first (exact_alike day again p alike) in
    let down = rounded_at_most (exact_points day p) (exact_points again p) first second (exact_alike again day p (alike_sym day again alike)) in
    omega (arith, up, down))
