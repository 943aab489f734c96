-- How lines read one after another as items, and where such a reading stops.
use Rattle.std.specs.Prelude.{◌≡◌, ℕ, List, [], ◌∷◌, ◌++◌, length}
use Rattle.std.specs.List.{AllZip}

-- each line is that of its item, and the items fit together
pub record Reads {Line Item : Type 0} (Is : Line → Item → Type 0) (Fit : List Item → Type 0)
    (lines : List Line) (items : List Item) : Type 0 where
  pub each : AllZip Is lines items
  pub fit : Fit items

-- the first line that doesn't read stands behind so many others: those read, and this one is that
-- of no item that fits together with theirs
pub record StopsBehind {Line Item : Type 0} (Is : Line → Item → Type 0) (Fit : List Item → Type 0)
    (lines : List Line) (count : ℕ) : Type 0 where
  pub front : List Line
  pub wrong : Line
  pub behind : List Line
  pub items : List Item
  pub parts : lines ≡ front ++ wrong ∷ behind
  pub before : Reads Is Fit front items
  pub none : (item : Item) → Is wrong item → Fit (items ++ item ∷ []) → ⊥
  pub counted : count ≡ length front
