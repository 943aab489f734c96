-- The order of the fixes by place.
use Rattle.std.specs.Prelude.{◌≡◌, List, length, map, slice_get, Some, IsPermutation}
use Rattle.gl_igc.specs.declared.fix.Fix.{Fix}
use Rattle.gl_goal.specs.Free.{numbers_from}
use Rattle.gl_places.specs.declared.by_place.ByPlace.{ByPlace}

-- the numbers of all fixes, each once, and the hulls over the fixes with these numbers
pub record IsByPlace (fixes : List Fix) (by_place : ByPlace) : Type 0 where
  pub numbers : IsPermutation (numbers_from 0 (length fixes)) by_place.numbers.items
  pub hulls : map Some by_place.hulls ≡ map (slice_get fixes) by_place.numbers.items
