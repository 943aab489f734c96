-- A choice of one place on each axis.
use Rattle.std.specs.Prelude.{ℕ, List, take}
use Rattle.gl_box.specs.declared.tuple.Tuple.{Tuple}

-- the place on each axis
abbrev pub places_of : Tuple → List ℕ
places_of tuple = take tuple.axes tuple.places
