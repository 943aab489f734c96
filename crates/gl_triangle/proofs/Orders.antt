-- What an order of the fixes says of places and numbers.
use Rattle.std.proofs.Common.{◌≡◌, ◌∙◌, sym, refl, subst, ℕ, ◌<◌, inl, inr, List, [], ◌∷◌, length, Some, slice_get, arith}
use Rattle.std.specs.Prelude.{max, min}
use Rattle.std.proofs.lemmas.Bool.{cases_lt}
use Rattle.gl_igc.specs.declared.fix.Fix.{Fix}
use Rattle.gl_goal.specs.declared.triangle.TriangleGoal.{TriangleGoal}
use Rattle.gl_goal.specs.Goal.{IsLegal}
use Rattle.gl_goal.specs.TriangleGoal.{triangle_rule}
use Rattle.gl_goal.specs.Triangle.{triangle_goal}
use Rattle.gl_goal.specs.Lemmas.Free.{length-numbers_between}
use Rattle.gl_places.proofs.Orders.{hulls_long, numbered_fix, numbers_below, numbers_long, placed}
use Rattle.gl_triangle.specs.declared.order.Order.{Order}
use Rattle.gl_triangle.specs.declared.order.Order.TheVariants as variants
use Rattle.gl_triangle.specs.Code.Node.{fixes_of}
use Rattle.gl_triangle.specs.Code.Order.{Counts, IsOrder, in_time, number_at, ordered_fixes, sorted, worth_at}
use Rattle.gl_triangle.proofs.Rounds.{IsRound, length-fixes_of, legal_places, legal_round, sorted-first, sorted-is, sorted-second, unsorted}

-- an order has as many fixes as the flight
pub length-ordered : (fixes : List Fix) (order : Order) → IsOrder fixes order → length (ordered_fixes fixes order) ≡ length fixes
length-ordered fixes variants.InTime is = refl
length-ordered fixes (variants.ByPlace by_place) is = hulls_long fixes by_place is

-- the fix at a place is the one with the number there
pub fix_at_place : (fixes : List Fix) (order : Order) → IsOrder fixes order → (place : ℕ) (fix : Fix) → place < length (ordered_fixes fixes order) → slice_get fixes (number_at order place) ≡ Some fix
    → slice_get (ordered_fixes fixes order) place ≡ Some fix
fix_at_place fixes variants.InTime is place fix below named = named
fix_at_place fixes (variants.ByPlace by_place) is place fix below named = numbered_fix fixes by_place is place fix below named

-- each number is that of a fix
pub number_below : (fixes : List Fix) (order : Order) → IsOrder fixes order → (place : ℕ) → place < length fixes → number_at order place < length fixes
number_below fixes variants.InTime is place below = below
number_below fixes (variants.ByPlace by_place) is place below =
    numbers_below fixes by_place is place 0 (omega (arith, below, numbers_long fixes by_place is))

-- three places that count are those of fixes with fair legs
pub counted_round : (goal : TriangleGoal) (order : Order) (p q r : ℕ) → Counts goal order (p ∷ q ∷ r ∷ [])
    → IsRound (fixes_of goal) (worth_at goal order (p ∷ q ∷ r ∷ [])) (number_at order p) (number_at order q) (number_at order r)
counted_round goal order p q r counts =
    unsorted (fixes_of goal) _ (number_at order p) (number_at order q) (number_at order r) (legal_round goal _ _ _ counts.legal)

-- what holds of two numbers, and of any two turned round, holds of the lesser and the greater
in_order : (P : ℕ → ℕ → Type 0) (a b : ℕ) → ((x y : ℕ) → P x y → P y x) → P a b → P (min a b) (max a b)
in_order P a b turned holds =
    elim (cases_lt b a) [
      | inl above ↦
          let lesser : b ≡ min a b = omega arith in
          let greater : a ≡ max a b = omega arith in
          subst (P (min a b)) greater (subst (λ x. P x a) lesser (turned a b holds))
      | inr below ↦
          let lesser : a ≡ min a b = omega arith in
          let greater : b ≡ max a b = omega arith in
          subst (P (min a b)) greater (subst (λ x. P x b) lesser holds)
    ]

-- the numbers at three places in order are those at the places as they are
sorted_places : (order : Order) (p q r : ℕ) → in_time order (sorted p q r) ≡ sorted (number_at order p) (number_at order q) (number_at order r)
sorted_places order p q r =
    let least = min p q in
    let other = max p q in
    let middle = min other r in
    let greatest = max other r in
    let goal : List ℕ = sorted (number_at order p) (number_at order q) (number_at order r) in
    let at : ℕ → ℕ → ℕ → List ℕ = λ x y z. sorted (number_at order x) (number_at order y) (number_at order z) in
    let first : (z x y : ℕ) → at x y z ≡ goal → at y x z ≡ goal = λ z x y same. sorted-first (number_at order x) (number_at order y) (number_at order z) ∙ same in
    let second : (x y z : ℕ) → at x y z ≡ goal → at x z y ≡ goal = λ x y z same. sorted-second (number_at order x) (number_at order y) (number_at order z) ∙ same in
    let one : at least other r ≡ goal = in_order (λ x y. at x y r ≡ goal) p q (first r) refl in
    let two : at least middle greatest ≡ goal = in_order (λ x y. at least x y ≡ goal) other r (second least) one in
    in_order (λ x y. at x y greatest ≡ goal) least middle (first greatest) two

-- a legal triangle stands at three places that count
pub record Counted (goal : TriangleGoal) (order : Order) (tuple : List ℕ) : Type 0 where
  pub places : List ℕ
  pub counts : Counts goal order places
  pub same : tuple ≡ in_time order places

-- a place for each number
at_place : (fixes : List Fix) (order : Order) → IsOrder fixes order → (number : ℕ) → number < length fixes → (place : ℕ) × (place < length fixes) × (number_at order place ≡ number)
at_place fixes variants.InTime is number below = (number, below, refl)
at_place fixes (variants.ByPlace by_place) is number below = placed fixes by_place is number below

counted_three : (goal : TriangleGoal) (order : Order) (a b c : ℕ) → IsOrder (fixes_of goal) order → IsLegal (triangle_rule goal) (a ∷ b ∷ c ∷ []) → Counted goal order (a ∷ b ∷ c ∷ [])
unfolding triangle_goal
counted_three goal order a b c is legal =
    let size = length-fixes_of goal in
    let numbers = length-numbers_between goal.first goal.last in
    let p = at_place (fixes_of goal) order is a (omega (arith, size, numbers, legal.is_tuple.0)) in
    let q = at_place (fixes_of goal) order is b (omega (arith, size, numbers, legal.is_tuple.1.0)) in
    let r = at_place (fixes_of goal) order is c (omega (arith, size, numbers, legal.is_tuple.1.1.0)) in
    let rises = legal_places goal (a ∷ b ∷ c ∷ []) legal in
    let named : sorted (number_at order p.0) (number_at order q.0) (number_at order r.0) ≡ sorted a b c = λ i. sorted (p.2 i) (q.2 i) (r.2 i) in
    let same : a ∷ b ∷ c ∷ [] ≡ in_time order (sorted p.0 q.0 r.0) =
    sym (sorted_places order p.0 q.0 r.0 ∙ named ∙ sorted-is a b c rises.second_later rises.third_later) in
    record {
      places = sorted p.0 q.0 r.0;
      counts = record {
        is_tuple = (omega (arith, size, numbers, p.1, q.1, r.1), (omega (arith, size, numbers, p.1, q.1, r.1), (omega (arith, size, numbers, p.1, q.1, r.1), tt)));
        second_later = omega arith;
        third_later = omega arith;
        legal = subst (IsLegal (triangle_rule goal)) same legal;
      };
      same = same;
    }

pub counted : (goal : TriangleGoal) (order : Order) (tuple : List ℕ) → IsOrder (fixes_of goal) order → IsLegal (triangle_rule goal) tuple → Counted goal order tuple
unfolding triangle_goal
counted goal order [] is legal = absurd legal.is_tuple
counted goal order (a ∷ []) is legal = absurd legal.is_tuple.1
counted goal order (a ∷ b ∷ []) is legal = absurd legal.is_tuple.1.1
counted goal order (a ∷ b ∷ c ∷ []) is legal = counted_three goal order a b c is legal
counted goal order (a ∷ b ∷ c ∷ d ∷ places) is legal = absurd legal.is_tuple.1.1.1
