-- Places to choose the fixes of a triangle from.
use Rattle.std.specs.Prelude.{ℕ, ◌<◌, List, [], ◌∷◌, length, All}
use Rattle.gl_igc.specs.declared.fix.Fix.{Fix}
use Rattle.gl_triangle.specs.declared.places.Places.{Places}
use Rattle.gl_triangle.specs.declared.trial.Choices.{Choices}

-- the places in their order
abbrev pub places_in : Places → List ℕ
places_in places = places.first ∷ places.second ∷ places.third ∷ []

-- there is a fix at each place
pub record AreAmong (fixes : List Fix) (places : Places) : Type 0 where
  pub first : places.first < length fixes
  pub second : places.second < length fixes
  pub third : places.third < length fixes

-- there is a fix at each place to choose
pub record AreChoices (fixes : List Fix) (choices : Choices) : Type 0 where
  pub first : All (λ place. place < length fixes) choices.first.items
  pub second : All (λ place. place < length fixes) choices.second.items
  pub third : All (λ place. place < length fixes) choices.third.items
