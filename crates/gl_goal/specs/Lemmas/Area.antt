-- The distance of an area task meets the laws of a goal.
use Rattle.std.proofs.Common.{◌≡◌, ◌∙◌, ap, refl, ℕ, ◌-◌, ◌≤◌, List, [], ◌∷◌, ◌++◌, map, arith}
use Rattle.std.specs.List.{AllZip}
use Rattle.std.proofs.lemmas.List.{length-append}
use Rattle.gl_sphere.specs.declared.place.Vec3.{Vec3}
use Rattle.gl_igc.specs.declared.fix.Fix.{Fix}
use Rattle.gl_goal.specs.Box.{Box, IsInside, point_box}
use Rattle.gl_goal.specs.Goal.{IsGoal, chosen}
use Rattle.gl_goal.specs.Chain.{fixes_at, greatest_legs, legs, points_of}
use Rattle.gl_goal.specs.Area.{area_goal}
use Rattle.gl_goal.specs.Lists.{AreLists}
use Rattle.gl_goal.specs.Lemmas.Chain.{IsAt, fix_box, fix_boxes-at, greatest_legs-at, hulls_of-hold, hulls_of-point, legs-at_most, legs-limited, length-points, point_box-at, point_box-inside, points-inside}
use Rattle.gl_goal.specs.Lemmas.Points.{point_in_order}
use Rattle.gl_text.proofs.Lists.{AllZip-push}

course-at_most : (start finish : Vec3) (boxes : List Box) (points : List Vec3)
    → AllZip IsInside boxes points
    → legs (start ∷ points ++ finish ∷ [])
    ≤ greatest_legs (point_box start ∷ boxes ++ point_box finish ∷ [])
course-at_most start finish boxes points inside =
    legs-at_most (point_box start ∷ boxes ++ point_box finish ∷ [])
    (start ∷ points ++ finish ∷ []) (
      point_box-inside start,
      AllZip-push IsInside boxes points (point_box finish) finish inside
          (point_box-inside finish),
    )

course-at : (start finish : Vec3) (fixes : List Fix)
    → greatest_legs (point_box start ∷ map fix_box fixes ++ point_box finish ∷ [])
    ≡ legs (start ∷ points_of fixes ++ finish ∷ [])
course-at start finish fixes =
    greatest_legs-at (point_box start ∷ map fix_box fixes ++ point_box finish ∷ [])
    (start ∷ points_of fixes ++ finish ∷ []) (
      point_box-at start,
      AllZip-push IsAt (map fix_box fixes) (points_of fixes)
          (point_box finish) finish (fix_boxes-at fixes) (point_box-at finish),
    )

less_off : (way most off : ℕ) → way ≤ most → way - off ≤ most - off
less_off way most off at_most = omega arith

pub area_goal-is_goal : (fixes : List Fix) (lists : List (List ℕ)) (start finish : Vec3) (off : ℕ)
    → AreLists fixes lists → IsGoal (area_goal fixes lists start finish off)
unfolding area_goal
area_goal-is_goal fixes lists start finish off are =
    record {
      some_axis = are.some_list;
      ten_axes = are.ten_lists;
      some_fix = are.some_number;
      rising = are.rising;
      limited = λ tuple fits.
          let points = points_of (fixes_at fixes (chosen lists tuple)) in
          omega (
            arith,
            are.ten_lists,
            legs-limited (start ∷ points ++ finish ∷ []),
            length-append points (finish ∷ []),
            length-points fixes lists tuple are.named fits,
          );
      shut_out = λ cell tuple covers shut held legal. absurd (cc);
      bounded = λ cell tuple covers held legal.
          less_off _ _ off
          (course-at_most start finish _ _
          (points-inside _ _ (hulls_of-hold fixes lists cell tuple are.named covers held
          legal.is_tuple)));
      single_legal = λ tuple fits open_. record {
        is_tuple = fits;
        in_order = point_in_order lists tuple fits open_.ordered;
        allowed = refl;
      };
      single_bound = λ tuple legal.
          ap (λ (boxes : List Box). greatest_legs
          (point_box start ∷ boxes ++ point_box finish ∷ []) - off)
          (hulls_of-point fixes lists tuple are.named legal.is_tuple)
          ∙ ap (λ (n : ℕ). n - off) (course-at start finish (fixes_at fixes (chosen lists tuple)));
    }
