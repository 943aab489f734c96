-- The distance of an outlanding meets the laws of a goal.
use Rattle.std.proofs.Common.{◌≡◌, ◌∙◌, ap, refl, subst, ℕ, ◌+◌, ◌-◌, ◌*◌, ◌<◌, ◌≤◌, ◌^◌, List, ◌∷◌, length, map, take, arith}
use Rattle.std.specs.List.{AllZip}
use Rattle.std.proofs.lemmas.List.{length-take}
use Rattle.gl_sphere.specs.declared.place.Vec3.{Vec3}
use Rattle.gl_igc.specs.declared.fix.Fix.{Fix}
use Rattle.gl_goal.specs.Box.{Box, IsInside, point_box}
use Rattle.gl_goal.specs.Goal.{IsGoal, chosen}
use Rattle.gl_goal.specs.Chain.{fixes_at, last_of, points_of}
use Rattle.gl_goal.specs.Out.{all_but_last, greatest_way_out, out_goal, way_out}
use Rattle.gl_goal.specs.Lists.{AreLists}
use Rattle.gl_goal.specs.Lemmas.Chain.{AllZip-end, AllZip-take, IsAt, distance-at_least, distance-at_most, distance-bound, fix_box, fix_boxes-at, greatest_distance-at, greatest_legs-at, hulls_of-hold, hulls_of-point, least_distance-at, legs-at_most, legs-limited, length-points, point_box-at, point_box-inside, points-inside}
use Rattle.gl_goal.specs.Lemmas.Points.{point_in_order}
use Rattle.gl_text.proofs.Lists.{AllZip-length}

-- what holds along two chains holds along them without their ends
flown-zip : {A B : Type 0} (R : A → B → Type 0) (xs : List A) (ys : List B) → AllZip R xs ys
    → AllZip R (all_but_last xs) (all_but_last ys)
flown-zip R xs ys all =
    let same = AllZip-length R xs ys all in
    let P : ℕ → Type 0 = λ n. AllZip R (take (length xs - 1) xs) (take (n - 1) ys) in
    subst P same (AllZip-take R (length xs - 1) xs ys all)

way_out-at_most : (start target : Vec3) (boxes : List Box) (points : List Vec3)
    → AllZip IsInside boxes points
    → way_out start target points ≤ greatest_way_out (point_box start) (point_box target) boxes
way_out-at_most start target boxes points inside =
    let first = point_box-inside start in
    let aim = point_box-inside target in
    let flown = flown-zip IsInside boxes points inside in
    let before = AllZip-end IsInside (point_box start) (all_but_last boxes) start
    (all_but_last points) first flown in
    let last = AllZip-end IsInside (point_box start) boxes start points first inside in
    omega (
      arith,
      legs-at_most (point_box start ∷ all_but_last boxes) (start ∷ all_but_last points)
          (first, flown),
      distance-at_most _ _ _ _ before aim,
      distance-at_least _ _ _ _ last aim,
    )

way_out-at : (start target : Vec3) (boxes : List Box) (points : List Vec3)
    → AllZip IsAt boxes points → greatest_way_out (point_box start) (point_box target) boxes
    ≡ way_out start target points
way_out-at start target boxes points at =
    let first = point_box-at start in
    let aim = point_box-at target in
    let flown = flown-zip IsAt boxes points at in
    let before = AllZip-end IsAt (point_box start) (all_but_last boxes) start
    (all_but_last points) first flown in
    let last = AllZip-end IsAt (point_box start) boxes start points first at in
    omega (
      arith,
      greatest_legs-at (point_box start ∷ all_but_last boxes) (start ∷ all_but_last points)
          (first, flown),
      greatest_distance-at _ _ _ _ before aim,
      least_distance-at _ _ _ _ last aim,
    )

way_out-limited : (start target : Vec3) (points : List Vec3) → length points ≤ 10
    → way_out start target points ≤ 7460377693 * 11
way_out-limited start target points ten =
    let flown = all_but_last points in
    omega (
      arith,
      ten,
      legs-limited (start ∷ flown),
      length-take (length points - 1) points,
      distance-bound (last_of start flown) target,
    )

pub out_goal-is_goal : (fixes : List Fix) (lists : List (List ℕ)) (start : Vec3) (fixed : ℕ)
    (target : Vec3) → AreLists fixes lists → fixed < 2 ^ 40
    → IsGoal (out_goal fixes lists start fixed target)
unfolding out_goal
out_goal-is_goal fixes lists start fixed target are short = record {
  some_axis = are.some_list;
  ten_axes = are.ten_lists;
  some_fix = are.some_number;
  rising = are.rising;
  limited = λ tuple fits.
      let points = points_of (fixes_at fixes (chosen lists tuple)) in
      let ten : length points ≤ 10 =
      omega (arith, are.ten_lists, length-points fixes lists tuple are.named fits) in
      omega (arith, way_out-limited start target points ten);
  shut_out = λ cell tuple covers shut held legal. absurd (cc);
  bounded = λ cell tuple covers held legal.
      let inside = points-inside _ _
      (hulls_of-hold fixes lists cell tuple are.named covers held legal.is_tuple) in
      omega (arith, way_out-at_most start target _ _ inside);
  single_legal = λ tuple fits open_. record {
    is_tuple = fits;
    in_order = point_in_order lists tuple fits open_.ordered;
    allowed = refl;
  };
  single_bound = λ tuple legal.
      let chosen_fixes = fixes_at fixes (chosen lists tuple) in
      ap (λ (boxes : List Box). fixed + greatest_way_out (point_box start) (point_box target) boxes)
      (hulls_of-point fixes lists tuple are.named legal.is_tuple)
      ∙ ap (λ (n : ℕ). fixed + n) (way_out-at start target (map fix_box chosen_fixes)
      (points_of chosen_fixes) (fix_boxes-at chosen_fixes));
}
