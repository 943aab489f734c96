-- What the rule of legs says of triangles below 750 kilometres, where that of 28 percent stands alone.
use Rattle.std.specs.Prelude.{◌≡◌, ℕ, ◌<◌, ◌&&◌, ◌||◌, nat_eq, nat_lt, List}
use Rattle.std.specs.List.{sum}
use Rattle.gl_goal.specs.Fair.{by_28_percent, is_fair, is_none_fair, large, most_from, most_of_fair, never_28_percent}

-- Where the greatest legs of a box are shorter than 750 kilometres together, a triangle, and each
-- test and the bound of such a box, are what they were by the rule of 28 percent alone. So a box of
-- a proof of version 1 that was closed before is closed today.
pub record IsAsBefore : Type 0 where
  pub fair : (legs : List ℕ) → sum legs < large
      → is_fair legs ≡ (nat_lt 0 (sum legs) && by_28_percent legs)
  pub none_fair : (least greatest : List ℕ) → sum greatest < large → is_none_fair least greatest
      ≡ (nat_eq (sum greatest) 0 || never_28_percent least greatest)
  pub bound : (greatest : List ℕ) → sum greatest < large
      → most_of_fair greatest ≡ most_from 28 greatest
