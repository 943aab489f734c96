-- The order of the fixes whose spans a search halves, and which triples of places count there.
use Rattle.std.specs.Prelude.{ℕ, ◌≤◌, min, max, List, [], ◌∷◌, get_or}
use Rattle.gl_box.specs.declared.span.Span.{Span}
use Rattle.gl_igc.specs.declared.fix.Fix.{Fix}
use Rattle.gl_goal.specs.declared.triangle.TriangleGoal.{TriangleGoal}
use Rattle.gl_goal.specs.Goal.{IsLegal, IsTuple, value}
use Rattle.gl_goal.specs.TriangleGoal.{triangle_rule}
use Rattle.gl_places.specs.ByPlace.{IsByPlace}
use Rattle.gl_triangle.specs.declared.order.Order.{Order}
use Rattle.gl_triangle.specs.declared.order.Order.TheVariants as variants

-- the number of the fix at a place
abbrev pub number_at : Order → ℕ → ℕ
number_at variants.InTime place = place
number_at (variants.ByPlace by_place) place = get_or by_place.numbers.items place 0

-- the fixes in their order
abbrev pub ordered_fixes : List Fix → Order → List Fix
ordered_fixes fixes variants.InTime = fixes
ordered_fixes fixes (variants.ByPlace by_place) = by_place.hulls

abbrev pub IsOrder : List Fix → Order → Type 0
IsOrder fixes variants.InTime = Unit {0}
IsOrder fixes (variants.ByPlace by_place) = IsByPlace fixes by_place

-- the number of each fix of a span is no less than the lower and no more than the higher of two
abbrev pub AreNumbers : Order → Span → Span → Type 0
AreNumbers order span numbers =
    (place : ℕ) → span.lo ≤ place → place ≤ span.hi
    → (numbers.lo ≤ number_at order place) × (number_at order place ≤ numbers.hi)

-- three numbers, the least first
abbrev pub sorted : ℕ → ℕ → ℕ → List ℕ
sorted a b c =
    let middle = min (max a b) c in
    min (min a b) middle ∷ max (min a b) middle ∷ max (max a b) c ∷ []

-- the numbers of the fixes at three places, in time order
abbrev pub in_time : Order → List ℕ → List ℕ
in_time order [] = []
in_time order (p ∷ []) = []
in_time order (p ∷ q ∷ []) = []
in_time order (p ∷ q ∷ r ∷ []) =
    sorted (number_at order p) (number_at order q) (number_at order r)
in_time order (p ∷ q ∷ r ∷ s ∷ places) = []

-- Three places count where none comes before the one that it is named after, and their fixes are in
-- time order a legal triangle.
pub record Counts (goal : TriangleGoal) (order : Order) (tuple : List ℕ) : Type 0 where
  pub is_tuple : IsTuple (triangle_rule goal).axes tuple
  pub second_later : get_or tuple 0 0 ≤ get_or tuple 1 0
  pub third_later : get_or tuple 1 0 ≤ get_or tuple 2 0
  pub legal : IsLegal (triangle_rule goal) (in_time order tuple)

-- what three places are worth
abbrev pub worth_at : TriangleGoal → Order → List ℕ → ℕ
worth_at goal order tuple = value (triangle_rule goal) (in_time order tuple)
