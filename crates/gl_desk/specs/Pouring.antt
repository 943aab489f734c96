-- What a taker has of a file that was handed to it.
use Rattle.std.specs.Prelude.{◌≡◌, ℕ, List, ◌++◌, length, Option, Some}
use Rattle.gl_desk.specs.Desk.{FilesByName, IsSeenIn}

-- The bytes of the file, so many, were taken: what stood for a text stands for it and these bytes.
-- Where the desk tells its folder, they are those that it has under the name.
pub record IsPoured {Taker : Type 0} (stands_for : Taker → List ℕ → Type 0)
    (folder : Option FilesByName) (name : List ℕ) (old new : Taker) (count : ℕ) : Type 0 where
  pub file : List ℕ
  pub seen : IsSeenIn folder name (Some file)
  pub counted : count ≡ length file
  pub stands : (text : List ℕ) → stands_for old text → stands_for new (text ++ file)
