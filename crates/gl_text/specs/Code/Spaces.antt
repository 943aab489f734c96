-- The first space of a text.
use Rattle.std.specs.Prelude.{◌≡◌, ◌≢◌, ℕ, ◌<◌, List, length, slice_index}

-- the place of the first space of a text
pub record IsFirstSpace (text : List ℕ) (place : ℕ) : Type 0 where
  pub inside : place < length text
  pub is : slice_index text place ≡ 32
  pub none : (k : ℕ) → k < place → slice_index text k ≢ 32
