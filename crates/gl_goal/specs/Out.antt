-- The distance of an outlanding: what was flown of the task, and how much nearer to the next point
-- of the task the flight came.
use Rattle.std.specs.Prelude.{ℕ, ◌+◌, ◌-◌, true, false, List, ◌∷◌, length, take}
use Rattle.gl_sphere.specs.declared.place.Vec3.{Vec3}
use Rattle.gl_igc.specs.declared.fix.Fix.{Fix}
use Rattle.gl_goal.specs.Box.{Box, point_box}
use Rattle.gl_sphere.specs.Distance.{distance}
use Rattle.gl_goal.specs.Chain.{fixes_at, greatest_distance, greatest_legs, hulls_of, last_of, least_distance, legs, points_of}
use Rattle.gl_goal.specs.Goal.{Goal}

-- all of some points or boxes but the last
abbrev pub all_but_last : {X : Type 0} → List X → List X
all_but_last xs = take (length xs - 1) xs

-- how much nearer to the target the point y is than the point before, 0 where it isn't nearer
abbrev pub gain : Vec3 → Vec3 → Vec3 → ℕ
gain before y target = distance before target - distance y target

-- the way from the start through all of some points but the last, and what the last one gains
abbrev pub way_out : Vec3 → Vec3 → List Vec3 → ℕ
way_out start target points =
    let flown = all_but_last points in
    legs (start ∷ flown) + gain (last_of start flown) (last_of start points) target

-- the most that can be gained where of the points no more is known than boxes
abbrev pub greatest_gain : Box → Box → Box → ℕ
greatest_gain before y target = greatest_distance before target - least_distance y target

-- the most that the way out can be where of the points no more is known than boxes
abbrev pub greatest_way_out : Box → Box → List Box → ℕ
greatest_way_out start target boxes =
    let flown = all_but_last boxes in
    greatest_legs (start ∷ flown) + greatest_gain (last_of start flown) (last_of start boxes) target

-- The goal of an outlanding over lists of fixes, one for each area that was visited and one for the
-- last fix: any fixes in time order, worth what is fixed, the legs from the start point through the
-- fixes but the last, and how much nearer to the target the last fix is than the one before it, or
-- than the start point. No cell is shut, and the bound of a cell is the most that this can be.
unfoldable pub out_goal : List Fix → List (List ℕ) → Vec3 → ℕ → Vec3 → Goal
out_goal fixes lists start fixed target = record {
  axes = lists;
  allows = λ numbers. true;
  worth = λ numbers. fixed + way_out start target (points_of (fixes_at fixes numbers));
  shut = λ cell. false;
  bound = λ cell.
      fixed + greatest_way_out (point_box start) (point_box target) (hulls_of fixes lists cell);
}
