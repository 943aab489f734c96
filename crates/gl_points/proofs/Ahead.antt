-- Who is ahead of whom on a day.
use Rattle.std.proofs.Common.{◌≡◌, refl, sym, ap, subst, ℕ, ◌*◌, ◌<◌, ◌≤◌, Bool, true, false, ◌==◌, not, ◌||◌, cond, arith, IsTrue}
use Rattle.std.proofs.Math.Nat.{mul-le-mul_left, mul-le-mul_right}
use Rattle.std.proofs.lemmas.Bool.Decides.{nat_tests}
use Rattle.gl_points.specs.declared.performance.Performance.{Performance}
use Rattle.gl_points.specs.declared.summary.Summary.{Summary}
use Rattle.gl_points.specs.Figures.{handicapped_distance, handicapped_speed}
use Rattle.gl_points.specs.Fraction.{Fraction, ◌÷◌, ◌⊗◌, ◌⊘◌, ◌⊕◌, ◌⊖◌, IsAtMost, rounded, whole}
use Rattle.gl_points.specs.Laws.{IsBelowFinishers, IsAheadOfSlower, IsAheadOfShorter}
use Rattle.gl_points.specs.Points.{day_factor, completion_factor, exact_points, most_for_distance, most_for_speed, points_earned, points_of_finisher, points_of_outlanding, share_of_speed}
use Rattle.gl_points.specs.Worth.{worth}
use Rattle.gl_points.proofs.Divided.{exact_points_above, most_for_distance_above}
use Rattle.gl_points.proofs.Held.{some_distance, within_distance}
use Rattle.gl_points.proofs.Orders.{added_at_most, at_most_itself, at_most_trans, less_at_most, over_at_most, part_at_most, plus_at_most, rounded_at_most, times_at_most}

-- more before it is rounded is no fewer points
points_tested : (first second none : Bool) (m n : ℕ) → IsTrue second → (IsTrue first → none ≡ false → m ≤ n) → cond (not first || none) 0 m ≤ cond (not second || none) 0 n
points_tested false second none m n launched grows = omega arith
points_tested true true true m n launched grows = omega arith
points_tested true true false m n launched grows = grows refl refl
points_tested true false none m n launched grows = cc

earned_at_most : (day : Summary) (p q : Performance) → IsTrue q.launched → (IsTrue p.launched → 1 ≤ day.far → (0 < day.distance.num) × IsAtMost (exact_points day p) (exact_points day q))
    → points_earned day p ≤ points_earned day q
unfolding points_earned
earned_at_most day p q launched grows =
    points_tested p.launched q.launched (day.far == 0) (rounded (exact_points day p)) (rounded (exact_points day q)) launched
    (λ first some. let far : 1 ≤ day.far = grind (arith, nat_tests) in let more = grows first far in
    rounded_at_most (exact_points day p) (exact_points day q) (exact_points_above day p far more.0) (exact_points_above day q far more.0) more.1)

-- the points of a finisher and of an outlanding
exact_of : (day : Summary) (p : Performance) (finished : Bool) → p.finished ≡ finished
    → exact_points day p ≡ day_factor day ⊗ completion_factor day ⊗ cond finished (points_of_finisher day p) (points_of_outlanding day p)
unfolding exact_points
exact_of day p finished is = ap (λ b. day_factor day ⊗ completion_factor day ⊗ cond b (points_of_finisher day p) (points_of_outlanding day p)) is

exact_at_most : (day : Summary) (p q : Performance) (first second : Bool) → p.finished ≡ first → q.finished ≡ second
    → IsAtMost (cond first (points_of_finisher day p) (points_of_outlanding day p)) (cond second (points_of_finisher day q) (points_of_outlanding day q))
    → IsAtMost (exact_points day p) (exact_points day q)
exact_at_most day p q first second is are grows =
    let factors = day_factor day ⊗ completion_factor day in
    let ours = cond first (points_of_finisher day p) (points_of_outlanding day p) in
    let theirs = cond second (points_of_finisher day q) (points_of_outlanding day q) in
    subst (λ (f : Fraction). IsAtMost f (exact_points day q)) (sym (exact_of day p first is))
    (subst (λ (f : Fraction). IsAtMost (factors ⊗ ours) f) (sym (exact_of day q second are))
    (times_at_most factors factors ours theirs (at_most_itself factors) grows))

-- an outlanding has no more before the day's factors than a finisher
outlanding_below : (day : Summary) (p q : Performance) → 0 < day.launched → IsAtMost (handicapped_distance day.handicap p) (worth day.distance)
    → IsAtMost (points_of_outlanding day p) (points_of_finisher day q)
unfolding points_of_outlanding points_of_finisher
outlanding_below day p q launched low =
    let share = handicapped_distance day.handicap p ⊘ worth day.distance in
    at_most_trans (most_for_distance day ⊗ share) (most_for_distance day) (most_for_speed day ⊗ share_of_speed day q ⊕ most_for_distance day) (most_for_distance_above day launched)
    (part_at_most (most_for_distance day) share (omega (arith, low))) (added_at_most (most_for_distance day) (most_for_speed day ⊗ share_of_speed day q))

pub below_finishers : (day : Summary) (p : Performance) → IsBelowFinishers day p
below_finishers day p q both out finished = earned_at_most day p q (q.launched_to_finish finished) (λ launched far.
    let some = some_distance both.list day both.day_of far in
    let low = within_distance both.list day p both.day_of both.first launched in
    (some, exact_at_most day p q false true out finished (outlanding_below day p q (omega (arith, day.far_at_most)) low)))

-- a greater speed has no smaller share
share_tested : (day : Summary) (p q : Performance) (none : Bool) → IsAtMost (handicapped_speed day.handicap q) (handicapped_speed day.handicap p)
    → IsAtMost (cond none (whole 0) ((handicapped_speed day.handicap q ⊖ (2 ÷ 3) ⊗ worth day.speed) ⊘ ((1 ÷ 3) ⊗ worth day.speed)))
    (cond none (whole 0) ((handicapped_speed day.handicap p ⊖ (2 ÷ 3) ⊗ worth day.speed) ⊘ ((1 ÷ 3) ⊗ worth day.speed)))
share_tested day p q true grows = omega arith
share_tested day p q false grows =
    let par = (2 ÷ 3) ⊗ worth day.speed in
    let third = (1 ÷ 3) ⊗ worth day.speed in
    over_at_most (handicapped_speed day.handicap q ⊖ par) (handicapped_speed day.handicap p ⊖ par) third third
    (less_at_most (handicapped_speed day.handicap q) (handicapped_speed day.handicap p) par par grows (at_most_itself par)) (at_most_itself third)

slower_below : (day : Summary) (p q : Performance) → IsAtMost (handicapped_speed day.handicap q) (handicapped_speed day.handicap p) → IsAtMost (points_of_finisher day q) (points_of_finisher day p)
unfolding points_of_finisher share_of_speed
slower_below day p q grows =
    plus_at_most (most_for_speed day ⊗ share_of_speed day q) (most_for_speed day ⊗ share_of_speed day p) (most_for_distance day) (most_for_distance day)
    (times_at_most (most_for_speed day) (most_for_speed day) (share_of_speed day q) (share_of_speed day p) (at_most_itself (most_for_speed day)) (share_tested day p q (day.speed.num == 0) grows))
    (at_most_itself (most_for_distance day))

-- more time for the same distance is no greater speed
slower : (m l h s t : ℕ) → s ≤ t → m * l * (h * s) ≤ m * l * (h * t)
slower m l h s t less = mul-le-mul_left (m * l) (mul-le-mul_left h less)

pub ahead_of_slower : (day : Summary) (p : Performance) → IsAheadOfSlower day p
ahead_of_slower day p q both first second handicap metres seconds = earned_at_most day q p (p.launched_to_finish first) (λ launched far.
    let some = some_distance both.list day both.day_of far in
    let grows : IsAtMost (handicapped_speed day.handicap q) (handicapped_speed day.handicap p) = rw (handicap, metres) (slower q.metres day.handicap q.handicap p.seconds q.seconds seconds) in
    (some, exact_at_most day q p true true second first (slower_below day p q grows)))

-- more metres are no smaller share
shorter_below : (day : Summary) (p q : Performance) → IsAtMost (handicapped_distance day.handicap q) (handicapped_distance day.handicap p)
    → IsAtMost (points_of_outlanding day q) (points_of_outlanding day p)
unfolding points_of_outlanding
shorter_below day p q grows =
    let most = most_for_distance day in
    times_at_most most most (handicapped_distance day.handicap q ⊘ worth day.distance) (handicapped_distance day.handicap p ⊘ worth day.distance) (at_most_itself most)
    (over_at_most (handicapped_distance day.handicap q) (handicapped_distance day.handicap p) (worth day.distance) (worth day.distance) grows (at_most_itself (worth day.distance)))

shorter : (m n l h : ℕ) → m ≤ n → m * l * h ≤ n * l * h
shorter m n l h less = mul-le-mul_right h (mul-le-mul_right l less)

pub ahead_of_shorter : (day : Summary) (p : Performance) → IsAheadOfShorter day p
ahead_of_shorter day p q both launched first second handicap metres = earned_at_most day q p launched (λ other far.
    let some = some_distance both.list day both.day_of far in
    let grows : IsAtMost (handicapped_distance day.handicap q) (handicapped_distance day.handicap p) = rw handicap (shorter q.metres p.metres day.handicap q.handicap metres) in
    (some, exact_at_most day q p false false second first (shorter_below day p q grows)))
