-- What is read of a recording that comes in pieces.
use Rattle.std.specs.Prelude.{ℤ, List, [], ◌∷◌, Option, None, Some}

-- the day of a task, if there is one, as a list
abbrev pub day_tag : Option ℤ → List ℤ
day_tag None = []
day_tag (Some day) = day ∷ []
