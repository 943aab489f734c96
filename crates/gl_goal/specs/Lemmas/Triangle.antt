-- The triangle meets the laws of a goal.
use Rattle.std.proofs.Common.{◌≡◌, ◌∙◌, ap, sym, refl, ℕ, zero, suc, ◌-◌, ◌<◌, ◌≤◌, Bool, true, false, List, [], ◌∷◌, length, get_or, map, ⊎_elim, arith}
use Rattle.std.specs.Prelude.{All, IsTrue, not, slice_index}
use Rattle.std.specs.List.{AllZip, sum}
use Rattle.std.specs.List.Sorted.{IsStrictlyIncreasing}
use Rattle.gl_sphere.specs.declared.place.Vec3.{Vec3}
use Rattle.gl_igc.specs.declared.fix.Fix.{Fix}
use Rattle.gl_box.specs.Cell.{Covers, Holds, point}
use Rattle.gl_box.specs.Halves.{span_at}
use Rattle.gl_box.proofs.Held.{holds_at, length-covers}
use Rattle.gl_goal.specs.Box.{Box, IsInside}
use Rattle.gl_goal.specs.Goal.{IsGoal, IsTuple, chosen, whole_cell}
use Rattle.gl_sphere.specs.Distance.{distance}
use Rattle.gl_goal.specs.Chain.{fixes_at, greatest_distance, hulls_of, least_distance, points_of}
use Rattle.gl_goal.specs.Fair.{is_fair, is_none_fair, most_of_fair}
use Rattle.gl_goal.specs.Free.{fixes_between, numbers_between}
use Rattle.gl_goal.specs.Lists.{AreLists, AreNamed}
use Rattle.gl_goal.specs.Triangle.{around, closes, three_axes, triangle_goal}
use Rattle.gl_goal.specs.Lemmas.Chain.{IsAt, distance-at_least, distance-at_most, distance-bound, fix_box, fix_boxes-at, greatest_distance-at, hulls_of-hold, hulls_of-point, least_distance-at, points-inside}
use Rattle.gl_goal.specs.Lemmas.Closing.{closes-wider}
use Rattle.gl_goal.specs.Lemmas.Fair.{and_both, fair_at_most, fair_else, fair_exactly, none_fair_out, or_cases, or_first, or_second, sum-three}
use Rattle.gl_goal.specs.Lemmas.Free.{get_or-numbers_from, length-numbers_between, numbers_between-named, numbers_from-rises}
use Rattle.gl_goal.specs.Lemmas.Points.{get_or-chosen, length-tuple, place_within, point_in_order, span_at-point}
use Rattle.std.proofs.lemmas.Bool.{and_parts}

-- what holds of each two of two lists holds of the ways round them
around-zip : (R : Box → Vec3 → Type 0) (S : ℕ → ℕ → Type 0) (far : Box → Box → ℕ)
    → ((a b : Box) (p q : Vec3) → R a p → R b q → S (far a b) (distance p q))
    → (boxes : List Box) (points : List Vec3) → AllZip R boxes points
    → AllZip S (around far boxes) (around distance points)
around-zip R S far holds [] [] all = tt
around-zip R S far holds (b ∷ []) (p ∷ []) all = tt
around-zip R S far holds (b ∷ d ∷ []) (p ∷ q ∷ []) all = tt
around-zip R S far holds (b ∷ d ∷ e ∷ []) (p ∷ q ∷ r ∷ []) all = (
  holds b d p q all.0 all.1.0,
  (holds d e q r all.1.0 all.1.1.0, (holds e b r p all.1.1.0 all.0, tt)),
)
around-zip R S far holds (b ∷ d ∷ e ∷ f ∷ boxes) (p ∷ q ∷ r ∷ s ∷ points) all = tt
around-zip R S far holds [] (p ∷ points) all = absurd all
around-zip R S far holds (b ∷ boxes) [] all = absurd all
around-zip R S far holds (b ∷ []) (p ∷ q ∷ points) all = absurd all.1
around-zip R S far holds (b ∷ d ∷ boxes) (p ∷ []) all = absurd all.1
around-zip R S far holds (b ∷ d ∷ []) (p ∷ q ∷ r ∷ points) all = absurd all.1.1
around-zip R S far holds (b ∷ d ∷ e ∷ boxes) (p ∷ q ∷ []) all = absurd all.1.1
around-zip R S far holds (b ∷ d ∷ e ∷ []) (p ∷ q ∷ r ∷ s ∷ points) all = absurd all.1.1.1
around-zip R S far holds (b ∷ d ∷ e ∷ f ∷ boxes) (p ∷ q ∷ r ∷ []) all = absurd all.1.1.1

AllZip-turned : (xs ys : List ℕ) → AllZip (λ x y. y ≤ x) xs ys → AllZip (◌≤◌) ys xs
AllZip-turned [] [] all = tt
AllZip-turned [] (y ∷ ys) all = absurd all
AllZip-turned (x ∷ xs) [] all = absurd all
AllZip-turned (x ∷ xs) (y ∷ ys) all = (all.0, AllZip-turned xs ys all.1)

-- the ways round of points lie between those of boxes that hold them
around-at_most : (boxes : List Box) (points : List Vec3) → AllZip IsInside boxes points
    → AllZip (◌≤◌) (around distance points) (around greatest_distance boxes)
around-at_most boxes points inside =
    AllZip-turned _ _ (around-zip IsInside
    (λ most way. way ≤ most) greatest_distance distance-at_most boxes points inside)

around-at_least : (boxes : List Box) (points : List Vec3) → AllZip IsInside boxes points
    → AllZip (◌≤◌) (around least_distance boxes) (around distance points)
around-at_least boxes points inside =
    around-zip IsInside (◌≤◌) least_distance distance-at_least boxes points inside

-- and are just those of single points
AllZip-equal : (xs ys : List ℕ) → AllZip (λ x y. x ≡ y) xs ys → xs ≡ ys
AllZip-equal [] [] all = refl
AllZip-equal [] (y ∷ ys) all = absurd all
AllZip-equal (x ∷ xs) [] all = absurd all
AllZip-equal (x ∷ xs) (y ∷ ys) all = λ i. all.0 i ∷ AllZip-equal xs ys all.1 i

around-at : (far : Box → Box → ℕ) (fixes : List Fix)
    → ((a b : Box) (p q : Vec3) → IsAt a p → IsAt b q → far a b ≡ distance p q)
    → around far (map fix_box fixes) ≡ around distance (points_of fixes)
around-at far fixes same =
    AllZip-equal _ _ (around-zip IsAt (λ x y. x ≡ y) far same (map fix_box fixes) (points_of fixes)
    (fix_boxes-at fixes))

-- what the ways round can be together
pub around-limited : (points : List Vec3) → sum (around distance points) ≤ 22381133079
around-limited [] = omega arith
around-limited (a ∷ []) = omega arith
around-limited (a ∷ b ∷ []) = omega arith
around-limited (a ∷ b ∷ c ∷ []) =
    omega (
      arith,
      sum-three (distance a b) (distance b c) (distance c a),
      distance-bound a b,
      distance-bound b c,
      distance-bound c a,
    )
around-limited (a ∷ b ∷ c ∷ d ∷ points) = omega arith

-- what holds of an axis holds of three such axes
All-three : (P : List ℕ → Type 0) (axis : List ℕ) → P axis → All P (axis ∷ axis ∷ axis ∷ [])
All-three P axis holds zero other below = holds
All-three P axis holds (suc zero) other below = holds
All-three P axis holds (suc (suc zero)) other below = holds
All-three P axis holds (suc (suc (suc k))) other below = absurd (omega arith)

pub three_axis : (first last k : ℕ) → k < 3
    → get_or (three_axes first last) k [] ≡ numbers_between first last
three_axis first last zero below = refl
three_axis first last (suc zero) below = refl
three_axis first last (suc (suc zero)) below = refl
three_axis first last (suc (suc (suc k))) below = absurd (omega arith)

pub three_axes-named : (fixes : List Fix) (first last : ℕ) → first ≤ last → last < length fixes
    → All (AreNamed fixes) (three_axes first last)
three_axes-named fixes first last order within =
    All-three (AreNamed fixes) (numbers_between first last)
    (numbers_between-named fixes first last order within)

-- they are lists of fixes to choose from
pub three_axes-are : (fixes : List Fix) (first last : ℕ) → first ≤ last → last < length fixes
    → AreLists fixes (three_axes first last)
three_axes-are fixes first last order within =
    let all = numbers_between first last in
    record {
      some_list = omega arith;
      ten_lists = omega arith;
      some_number = All-three (λ axis. 0 < length axis) all
          (omega (arith, length-numbers_between first last));
      rising = All-three IsStrictlyIncreasing all (numbers_from-rises first (suc (last - first)));
      named = three_axes-named fixes first last order within;
    }

-- the place that a tuple chooses on one of the three axes, by the number of its fix
pub three-place : (first last : ℕ) (tuple : List ℕ) (k : ℕ) → IsTuple (three_axes first last) tuple
    → k < 3 → slice_index (chosen (three_axes first last) tuple) k - first ≡ get_or tuple k 0
three-place first last tuple k fits below =
    let axes = three_axes first last in
    let inside : get_or tuple k 0 < suc (last - first) =
    omega (
      arith,
      place_within axes tuple k fits below,
      ap length (three_axis first last k below),
      length-numbers_between first last,
    ) in
    let number = get_or-chosen axes tuple k fits below
    ∙ ap (λ (axis : List ℕ). get_or axis (get_or tuple k 0) 0) (three_axis first last k below)
    ∙ get_or-numbers_from first (suc (last - first)) (get_or tuple k 0) 0 inside in
    omega (arith, number)

not_true : (b : Bool) → IsTrue (not b) → IsTrue b → ⊥
not_true true past is = absurd (cc)
not_true false past is = absurd (cc)

true_else : (b : Bool) → (IsTrue (not b) → ⊥) → IsTrue b
true_else true past = refl
true_else false past = absurd (past refl)

-- the flight of a legal tuple closes past the ends of each cell that holds it
shut_in_time : (fixes : List Fix) (first last closing : ℕ) (cell : List (ℕ × ℕ)) (tuple : List ℕ)
    → Covers (whole_cell (three_axes first last)) cell → IsTuple (three_axes first last) tuple
    → Holds cell tuple → IsTrue (closes (fixes_between fixes first last) closing
    (slice_index (chosen (three_axes first last) tuple) 0 - first)
    (slice_index (chosen (three_axes first last) tuple) 2 - first))
    → IsTrue (closes (fixes_between fixes first last) closing (span_at cell 0).1 (span_at cell 2).0)
shut_in_time fixes first last closing cell tuple covers fits held closed =
    let long = length-covers (whole_cell (three_axes first last)) cell covers in
    let a = holds_at cell tuple 0 held (omega (arith, long)) in
    let c = holds_at cell tuple 2 held (omega (arith, long)) in
    closes-wider (fixes_between fixes first last) closing _ _ _ _
    (omega (arith, a.1, three-place first last tuple 0 fits (omega arith)))
    (omega (arith, c.0, three-place first last tuple 2 fits (omega arith))) closed

pub triangle_goal-is_goal : (fixes : List Fix) (first last closing : ℕ) → first ≤ last
    → last < length fixes → IsGoal (triangle_goal fixes first last closing)
unfolding triangle_goal
triangle_goal-is_goal fixes first last closing order within =
    let axes = three_axes first last in
    let are = three_axes-are fixes first last order within in
    let every = are.named in
    record {
      some_axis = are.some_list;
      ten_axes = are.ten_lists;
      some_fix = are.some_number;
      rising = are.rising;
      limited = λ tuple fits. omega
          (arith, around-limited (points_of (fixes_at fixes (chosen axes tuple))));
      shut_out = λ cell tuple covers shut held legal.
          let inside = points-inside _ _
          (hulls_of-hold fixes axes cell tuple every covers held legal.is_tuple) in
          let allowed = and_parts (is_fair
          (around distance (points_of (fixes_at fixes (chosen axes tuple))))) _ legal.allowed in
          ⊎_elim
          (λ none. none_fair_out _ _ _ (around-at_least _ _ inside)
          (around-at_most _ _ inside) none allowed.0)
          (λ open_. not_true _ open_ (shut_in_time fixes first last closing cell tuple covers
          legal.is_tuple held allowed.1))
          (or_cases (is_none_fair (around least_distance (hulls_of fixes axes cell))
          (around greatest_distance (hulls_of fixes axes cell))) _ shut);
      bounded = λ cell tuple covers held legal.
          let inside = points-inside _ _
          (hulls_of-hold fixes axes cell tuple every covers held legal.is_tuple) in
          let allowed = and_parts (is_fair
          (around distance (points_of (fixes_at fixes (chosen axes tuple))))) _ legal.allowed in
          fair_at_most _ _ (around-at_most _ _ inside) allowed.0;
      single_legal = λ tuple fits open_.
          let hulls = hulls_of-point fixes axes tuple every fits in
          let chosen_fixes = fixes_at fixes (chosen axes tuple) in
          let legs = around distance (points_of chosen_fixes) in
          let least : around least_distance (hulls_of fixes axes (point tuple)) ≡ legs =
          ap (around least_distance) hulls
          ∙ around-at least_distance chosen_fixes least_distance-at in
          let most : around greatest_distance (hulls_of fixes axes (point tuple)) ≡ legs =
          ap (around greatest_distance) hulls
          ∙ around-at greatest_distance chosen_fixes greatest_distance-at in
          let same : is_none_fair (around least_distance (hulls_of fixes axes (point tuple)))
          (around greatest_distance (hulls_of fixes axes (point tuple)))
          ≡ is_none_fair legs legs = λ i. is_none_fair (least i) (most i) in
          let long = length-tuple axes tuple fits in
          let a = span_at-point tuple 0 (omega (arith, long)) in
          let c = span_at-point tuple 2 (omega (arith, long)) in
          let range = fixes_between fixes first last in
          let at : closes range closing (span_at (point tuple) 0).1 (span_at (point tuple) 2).0
          ≡ closes range closing (slice_index (chosen axes tuple) 0 - first)
          (slice_index (chosen axes tuple) 2 - first) =
          (λ i. closes range closing (a i).1 (c i).0)
          ∙ (λ i. closes range closing
          (sym (three-place first last tuple 0 fits (omega arith)) i)
          (sym (three-place first last tuple 2 fits (omega arith)) i)) in
          record {
            is_tuple = fits;
            in_order = point_in_order axes tuple fits open_.ordered;
            allowed = and_both _ _
                (fair_else legs (λ none. open_.not_shut (or_first _ _ (same ∙ none))))
                (sym at ∙ true_else _ (λ open_past. open_.not_shut (or_second _ _ open_past)));
          };
      single_bound = λ tuple legal.
          let chosen_fixes = fixes_at fixes (chosen axes tuple) in
          let allowed = and_parts (is_fair (around distance (points_of chosen_fixes))) _
          legal.allowed in
          ap (λ (boxes : List Box). most_of_fair (around greatest_distance boxes))
          (hulls_of-point fixes axes tuple every legal.is_tuple)
          ∙ ap most_of_fair (around-at greatest_distance chosen_fixes greatest_distance-at)
          ∙ fair_exactly (around distance (points_of chosen_fixes)) allowed.0;
    }
