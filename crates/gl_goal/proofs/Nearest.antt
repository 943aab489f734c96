-- The last fix near a box, by the halves of a span; and near a point, by its box.
use Rattle.std.proofs.Common.{◌≡◌, ◌∙◌, ap, sym, subst, ℕ, ◌+◌, ◌*◌, ◌<◌, ◌≤◌, max, min, List, [], ◌∷◌, length, Option, None, Some, slice_get, MatchOption, ℤ, ⊎_elim, arith}
use Rattle.std.proofs.lemmas.Bool.{cases_lt}
use Rattle.std.proofs.lemmas.Int.{ints}
use Rattle.std.proofs.lemmas.Option.{get_or_from_slice_get}
use Rattle.std.proofs.Math.Nat.{mul-le-mul}
use Rattle.gl_sphere.proofs.Arcs.{written_distance-mono}
use Rattle.gl_sphere.proofs.Roots.{IsRoot-floor_root}
use Rattle.gl_sphere.specs.declared.place.Vec3.{Vec3}
use Rattle.gl_sphere.specs.Distance.{arc_over, floor_root, squared_chord, squared_gap, written_distance}
use Rattle.gl_igc.specs.declared.fix.Fix.{Fix}
use Rattle.gl_goal.specs.Box.{Box, IsBetween, IsInside, fixes_in, hull_of, point_box}
use Rattle.gl_goal.specs.Chords.{IsChord, least_chord}
use Rattle.gl_goal.specs.Near.{IsLastNear, IsLastNearBox, IsNear, IsNearBox, IsNoneNear, IsNoneNearBox}
use Rattle.gl_goal.specs.Code.Boxes.{both}
use Rattle.gl_goal.specs.Lemmas.ChordBounds.{squared_chord-at_least}
use Rattle.gl_goal.specs.Lemmas.Held.{fix_box, hull_of-holds, hull_of-single, named, point_box-inside}
use Rattle.gl_goal.specs.Lemmas.Spans.{fixes_in-single}

-- what is known of the last place near a point that was found, if one was
abbrev pub IsFound : List Fix → Vec3 → ℕ → ℕ × ℕ → Option ℕ → Type 0
IsFound fixes point limit span found =
    MatchOption found (IsNoneNear fixes point limit span) (IsLastNear fixes point limit span)

-- what is known of the last place near a box that was found, if one was
abbrev pub IsFoundBox : List Fix → Box → ℕ → ℕ × ℕ → Option ℕ → Type 0
IsFoundBox fixes box limit span found =
    MatchOption found (IsNoneNearBox fixes box limit span) (IsLastNearBox fixes box limit span)

-- the square of the least chord from a box to the hull of a span
abbrev pub hull_chord : List Fix → Box → ℕ × ℕ → ℕ
hull_chord fixes box span = least_chord box (hull_of (fixes_in fixes span))

-- how far the hull of a span is from a box
abbrev pub hull_distance : List Fix → Box → ℕ × ℕ → ℕ
hull_distance fixes box span = written_distance (hull_chord fixes box span)

-- the arc over a chord is no shorter than the chord
arc-at_least : (chord : ℕ) → chord ≤ arc_over chord
unfolding arc_over
arc-at_least chord = omega arith

-- where a chord is longer than a limit, so is the distance
pub longer-far : (square limit : ℕ) → (limit + 1) * (limit + 1) ≤ square → limit < written_distance square
unfolding written_distance
longer-far square limit long =
    let root = IsRoot-floor_root square in
    ⊎_elim
    (λ (above : limit < floor_root square). omega (arith, above, arc-at_least (floor_root square)))
    (λ (most : floor_root square ≤ limit). let p : (floor_root square + 1) * (floor_root square + 1) ≤ (limit + 1) * (limit + 1) = mul-le-mul (omega (arith, most)) (omega (arith, most)) in
    absurd (omega (arith, p, long, root.next_square_above)))
    (cases_lt limit (floor_root square))

-- no fix of a span is nearer than its hull
pub far-none : (fixes : List Fix) (box : Box) (limit lo hi from to : ℕ) → hi < length fixes → limit < hull_distance fixes box (lo, hi) → IsNoneNearBox fixes box limit (both (lo, hi) (from, to))
far-none fixes box limit lo hi from to within far place inside found =
    let fix = found.near.fix in
    let held = hull_of-holds fixes (lo, hi) place fix (omega (arith, inside.0)) (omega (arith, inside.1)) within (get_or_from_slice_get fixes place fix fix found.near.there) in
    let chord = squared_chord-at_least box (hull_of (fixes_in fixes (lo, hi))) found.point fix.at found.inside held.inside in
    absurd (omega (arith, found.near.near, written_distance-mono _ _ chord))

-- the box of a fix holds no other point than that of the fix
fix_box-point : (fix : Fix) (point : Vec3) → IsInside (fix_box fix) point → IsInside (point_box fix.at) point
fix_box-point fix point inside = record { x = inside.x; y = inside.y; z = inside.z }

same-gap : (a b p q : ℤ) → IsBetween (a, a) p → IsBetween (b, b) q → squared_gap p q ≡ squared_gap a b
same-gap a b p q one other =
    let first : p ≡ a = omega (arith, ints, one.0, one.1) in
    let second : q ≡ b = omega (arith, ints, other.0, other.1) in
    λ i. squared_gap (first i) (second i)

-- the points in the boxes of two points have the chord of the two
same-chord : (a b p q : Vec3) → IsInside (point_box a) p → IsInside (point_box b) q → squared_chord p q ≡ squared_chord a b
unfolding squared_chord
same-chord a b p q one other =
    let x = same-gap a.x b.x p.x q.x one.x other.x in
    let y = same-gap a.y b.y p.y q.y one.y other.y in
    let z = same-gap a.z b.z p.z q.z one.z other.z in
    cc

-- where some point of a box and some point of the hull of a single fix have this chord, the fix is
-- that near to the box
single-near : (fixes : List Fix) (box : Box) (limit lo hi : ℕ) (chord : ℕ) (fix : Fix) → slice_get fixes lo ≡ Some fix → lo ≡ hi → fixes_in fixes (lo, lo) ≡ fix ∷ []
    → IsChord box (hull_of (fixes_in fixes (lo, hi))) chord → written_distance chord ≤ limit → IsNearBox fixes box limit lo
single-near fixes box limit lo hi chord fix there same one reached near =
    let P : Box → Type 0 = λ hull. IsInside hull reached.to in
    let hull : hull_of (fixes_in fixes (lo, hi)) ≡ fix_box fix = ap (λ n. hull_of (fixes_in fixes (lo, n))) (sym same) ∙ ap hull_of one ∙ hull_of-single fix in
    let inside = fix_box-point fix reached.to (subst P hull reached.to_inside) in
    let is : squared_chord reached.from fix.at ≡ chord = sym (same-chord reached.from fix.at reached.from reached.to (point_box-inside reached.from) inside) ∙ reached.is in
    record {
      point = reached.from;
      inside = reached.from_inside;
      near = record { fix = fix; there = there; near = omega (arith, near, ap written_distance is) };
    }

pub single-last : (fixes : List Fix) (box : Box) (limit lo hi from to chord : ℕ) → hi < length fixes → lo ≡ hi → from ≤ lo → lo ≤ to → IsChord box (hull_of (fixes_in fixes (lo, hi))) chord
    → written_distance chord ≤ limit → IsLastNearBox fixes box limit (both (lo, hi) (from, to)) lo
single-last fixes box limit lo hi from to chord within same low high reached near =
    let fix = named fixes lo (omega arith) in
    let one = fixes_in-single fixes lo fix.0 (omega arith) ∙ ap (λ f. f ∷ []) (get_or_from_slice_get fixes lo fix.0 fix.0 fix.1) in
    record {
      within = (omega arith, omega arith);
      near = single-near fixes box limit lo hi chord fix.0 fix.1 same one reached near;
      last = λ later after below is. absurd (omega (arith, after, below));
    }

-- what is last in the lower half is last where the upper half has none
lower-last : (fixes : List Fix) (box : Box) (limit lo middle hi from to place : ℕ) → middle ≤ hi → IsNoneNearBox fixes box limit (both (middle + 1, hi) (from, to))
    → IsLastNearBox fixes box limit (both (lo, middle) (from, to)) place → IsLastNearBox fixes box limit (both (lo, hi) (from, to)) place
lower-last fixes box limit lo middle hi from to place high none lower = record {
  within = (lower.within.0, omega (arith, lower.within.1));
  near = lower.near;
  last = λ later after below near.
      ⊎_elim
      (λ (upper : middle < later). none later (omega (arith, after, below, lower.within.0), below) near)
      (λ (in_lower : later ≤ middle). lower.last later after (omega (arith, below)) near)
      (cases_lt middle later);
}

neither-near : (fixes : List Fix) (box : Box) (limit lo middle hi from to : ℕ) → middle ≤ hi → IsNoneNearBox fixes box limit (both (middle + 1, hi) (from, to))
    → IsNoneNearBox fixes box limit (both (lo, middle) (from, to)) → IsNoneNearBox fixes box limit (both (lo, hi) (from, to))
neither-near fixes box limit lo middle hi from to high upper lower place inside near =
    ⊎_elim
    (λ (above : middle < place). upper place (omega (arith, inside.0), inside.1) near)
    (λ (below : place ≤ middle). lower place (inside.0, omega (arith, inside.1)) near)
    (cases_lt middle place)

-- what is found in the lower half is found where the upper half has none
pub lower-found : (fixes : List Fix) (box : Box) (limit lo middle hi from to : ℕ) (found : Option ℕ) → middle ≤ hi → IsNoneNearBox fixes box limit (both (middle + 1, hi) (from, to))
    → IsFoundBox fixes box limit (both (lo, middle) (from, to)) found → IsFoundBox fixes box limit (both (lo, hi) (from, to)) found
lower-found fixes box limit lo middle hi from to None high upper lower =
    neither-near fixes box limit lo middle hi from to high upper lower
lower-found fixes box limit lo middle hi from to (Some place) high upper lower =
    lower-last fixes box limit lo middle hi from to place high upper lower

-- a span has all its places in common with the whole
pub whole-found : (fixes : List Fix) (box : Box) (limit lo hi from to : ℕ) (found : Option ℕ) → lo ≡ 0 → hi + 1 ≡ length fixes → to < length fixes
    → IsFoundBox fixes box limit (both (lo, hi) (from, to)) found → IsFoundBox fixes box limit (from, to) found
whole-found fixes box limit lo hi from to found low high within is =
    let first : max lo from ≡ from = omega arith in
    let last : min hi to ≡ to = omega arith in
    let P : ℕ × ℕ → Type 0 = λ span. IsFoundBox fixes box limit span found in
    subst P (λ i. (first i, last i)) is

-- what is near a point is near its box
point-near_box : (fixes : List Fix) (point : Vec3) (limit place : ℕ) → IsNear fixes point limit place → IsNearBox fixes (point_box point) limit place
point-near_box fixes point limit place near = record {
  point = point;
  inside = point_box-inside point;
  near = near;
}

-- and what is near its box is near the point
point_box-near : (fixes : List Fix) (point : Vec3) (limit place : ℕ) → IsNearBox fixes (point_box point) limit place → IsNear fixes point limit place
point_box-near fixes point limit place found =
    let fix = found.near.fix in
    let same = same-chord point fix.at found.point fix.at found.inside (point_box-inside fix.at) in
    record {
      fix = fix;
      there = found.near.there;
      near = omega (arith, found.near.near, ap written_distance same);
    }

point-found : (fixes : List Fix) (point : Vec3) (limit : ℕ) (span : ℕ × ℕ) (found : Option ℕ) → IsFoundBox fixes (point_box point) limit span found → IsFound fixes point limit span found
point-found fixes point limit span None none =
    λ place inside near. none place inside (point-near_box fixes point limit place near)
point-found fixes point limit span (Some place) is = record {
  within = is.within;
  near = point_box-near fixes point limit place is.near;
  last = λ later after below near. is.last later after below (point-near_box fixes point limit later near);
}

-- what is found near the box of a point, is found near the point
pub box_of_point-found : (fixes : List Fix) (box : Box) (point : Vec3) (limit : ℕ) (span : ℕ × ℕ) (found : Option ℕ) → box ≡ point_box point → IsFoundBox fixes box limit span found
    → IsFound fixes point limit span found
box_of_point-found fixes box point limit span found is near =
    let P : Box → Type 0 = λ b. IsFoundBox fixes b limit span found in
    point-found fixes point limit span found (subst P is near)
