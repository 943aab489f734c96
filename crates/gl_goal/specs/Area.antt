-- The distance of an area task: from the start through one fix in each area to the finish.
use Rattle.std.specs.Prelude.{ℕ, ◌-◌, true, false, List, [], ◌∷◌, ◌++◌}
use Rattle.gl_sphere.specs.declared.place.Vec3.{Vec3}
use Rattle.gl_igc.specs.declared.fix.Fix.{Fix}
use Rattle.gl_goal.specs.Box.{point_box}
use Rattle.gl_goal.specs.Chain.{fixes_at, greatest_legs, hulls_of, legs, points_of}
use Rattle.gl_goal.specs.Goal.{Goal}

-- The goal of an area task over lists of fixes, one for each area: any fixes in time order, worth
-- the legs from the start point through them to the finish point, less `off`, and not below 0. No
-- cell is shut, and the bound of a cell is the greatest legs, less `off`.
unfoldable pub area_goal : List Fix → List (List ℕ) → Vec3 → Vec3 → ℕ → Goal
area_goal fixes lists start finish off = record {
  axes = lists;
  allows = λ numbers. true;
  worth = λ numbers. legs (start ∷ points_of (fixes_at fixes numbers) ++ finish ∷ []) - off;
  shut = λ cell. false;
  bound = λ cell.
      greatest_legs (point_box start ∷ hulls_of fixes lists cell ++ point_box finish ∷ []) - off;
}
