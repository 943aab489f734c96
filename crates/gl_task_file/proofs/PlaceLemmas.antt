-- A place of the code is the place at its angles.
use Rattle.std.proofs.Common.{◌≡◌, refl, sym, ap, subst, T, Bool, true, false, Option, Some, None, ℤ, pos, neg_ℤ}
use Rattle.std.specs.Prelude.{option_map, option_and_then}
use Rattle.std.specs.Int.Signed.{le_z}
use Rattle.gl_sphere.specs.PlaceText.{place_of}
use Rattle.gl_sphere.proofs.SamePlaces.{Grid-same}
use Rattle.gl_sphere.specs.Sphere.{quarter_turn, half_turn}
use Rattle.gl_sphere.specs.declared.place.Grid.{Grid}
use Rattle.gl_task_file.specs.Places.{grid_by_tests, grid_at}

by_tests : (g : Grid) (south north west east : Bool) (a : le_z (neg_ℤ (pos quarter_turn)) g.lat ≡ south) (b : le_z g.lat (pos quarter_turn) ≡ north) (c : le_z (neg_ℤ (pos half_turn)) g.lon ≡ west)
    (d : le_z g.lon (pos half_turn) ≡ east) → grid_by_tests g.lat g.lon south north west east a b c d ≡ Some g
by_tests g true true true true a b c d = ap Some (Grid-same _ g refl refl)
by_tests g false north west east a b c d = absurd (subst T a g.lat_in_range.0.le)
by_tests g true false west east a b c d = absurd (subst T b g.lat_in_range.1.le)
by_tests g true true false east a b c d = absurd (subst T c g.lon_in_range.0.le)
by_tests g true true true false a b c d = absurd (subst T d g.lon_in_range.1.le)

pub grid_at-place_of : (g : Grid) → grid_at (place_of g) ≡ Some g
unfolding grid_at
grid_at-place_of g = by_tests g _ _ _ _ refl refl refl refl

-- what reads as a place's angles is the place
pub grid_is : (o : Option Grid) (t : Option (ℤ × ℤ)) → option_map place_of o ≡ t → o ≡ option_and_then grid_at t
grid_is None t is = subst (λ (t : Option (ℤ × ℤ)). ◌≡◌ {A = Option Grid} None (option_and_then grid_at t)) is refl
grid_is (Some g) t is = subst (λ (t : Option (ℤ × ℤ)). Some g ≡ option_and_then grid_at t) is (sym (grid_at-place_of g))
