-- What a triangle's goal keeps.
use Rattle.std.proofs.Common.{◌≡◌, ◌∙◌, sym, ap, refl, subst, ℕ, suc, ◌-◌, ◌<◌, ◌≤◌, Bool, true, false, List, [], ◌∷◌, length, get_or, slice_get, Some, ⊎_elim, arith}
use Rattle.std.specs.Option.{unwrap_or}
use Rattle.std.specs.Prelude.{All, IsTrue, nat_le, slice_index}
use Rattle.std.proofs.lemmas.Option.{slice_get_within}
use Rattle.std.proofs.lemmas.Bool.{cases_Bool, leb-true, le-leb, leb-false}
use Rattle.std.proofs.lemmas.List.{get_or_default}
use Rattle.gl_box.specs.Cell.{Covers, spans_of}
use Rattle.gl_box.specs.Tuple.{places_of}
use Rattle.gl_box.proofs.Held.{length-covers}
use Rattle.gl_box.specs.declared.cell.Cell.{Cell}
use Rattle.gl_box.specs.declared.span.Span.{Span}
use Rattle.gl_box.specs.declared.tuple.Tuple.{Tuple}
use Rattle.gl_goal.specs.Box.{Box}
use Rattle.gl_igc.specs.declared.fix.Fix.{Fix}
use Rattle.gl_goal.specs.Chain.{hulls_of}
use Rattle.gl_goal.specs.Goal.{IsTuple, chosen, whole_cell}
use Rattle.gl_goal.proofs.Order.{length-whole}
use Rattle.gl_goal.proofs.Courses.{length-hulls_of}
use Rattle.gl_goal.proofs.Listed.{cell-within, place-within, tuple-place}
use Rattle.gl_goal.specs.declared.triangle.TriangleGoal.{TriangleGoal}
use Rattle.gl_goal.specs.Closing.{TellReach}
use Rattle.gl_goal.specs.Free.{fixes_between, numbers_between}
use Rattle.gl_goal.specs.Code.Round.{AreReaches}
use Rattle.gl_goal.specs.Reach.{IsReach}
use Rattle.gl_goal.specs.Triangle.{closes, three_axes}
use Rattle.gl_goal.specs.Lemmas.Chain.{length-fixes_at}
use Rattle.gl_goal.specs.Lemmas.Closing.{closes-found, closes-shown}
use Rattle.gl_goal.specs.Lemmas.Free.{length-numbers_between, numbers_between-named}
use Rattle.gl_goal.specs.Lemmas.Triangle.{three-place, three_axis}
use Rattle.gl_goal.proofs.Reaches.{closes_within_reach}

-- how many fixes there are from the first to the last number
pub length-between : (fixes : List Fix) (first last : ℕ) → first ≤ last → last < length fixes → length (fixes_between fixes first last) ≡ suc (last - first)
length-between fixes first last order within =
    length-fixes_at fixes (numbers_between first last) (numbers_between-named fixes first last order within) ∙ length-numbers_between first last

same_truth : (b c : Bool) → (IsTrue b → IsTrue c) → (IsTrue c → IsTrue b) → b ≡ c
same_truth true c forth back = sym (forth refl)
same_truth false true forth back = back refl
same_truth false false forth back = refl

-- the reaches of all places tell how far a flight reaches
pub tell_reach : (fixes : List Fix) (closing : ℕ) (reaches : List ℕ) → AreReaches fixes closing reaches → TellReach fixes closing reaches
tell_reach fixes closing reaches are = (
  are.sized,
  λ a c below.
      let within = closes_within_reach fixes closing a (slice_index reaches a) c (are.each a below) in
      same_truth (closes fixes closing a c) (nat_le c (slice_index reaches a))
      (λ closed. le-leb c (slice_index reaches a) (within.0 (closes-found fixes closing a c closed)))
      (λ reached. closes-shown fixes closing a c (within.1 (leb-true c (slice_index reaches a) reached))),
)

-- no flight reaches past its last fix
pub reach_within : (fixes : List Fix) (closing : ℕ) (reaches : List ℕ) (a : ℕ) → TellReach fixes closing reaches → a < length fixes → slice_index reaches a < length fixes
reach_within fixes closing reaches a tell below =
    ⊎_elim
    (λ (past : nat_le (length fixes) (slice_index reaches a) ≡ true).
    let closed = closes-found fixes closing a (length fixes) (tell.1 a (length fixes) below ∙ past) in
    absurd (omega (arith, closed.to_in, slice_get_within fixes closed.to closed.finish closed.finish_is)))
    (λ (inside : nat_le (length fixes) (slice_index reaches a) ≡ false). leb-false (length fixes) (slice_index reaches a) inside)
    (cases_Bool (nat_le (length fixes) (slice_index reaches a)))

-- and what tells how far it does is the reach
pub told_reach : (fixes : List Fix) (closing : ℕ) (reaches : List ℕ) (a : ℕ) → TellReach fixes closing reaches → a < length fixes → IsReach fixes closing a (slice_index reaches a)
told_reach fixes closing reaches a tell below =
    let reach = slice_index reaches a in
    record {
      within = reach_within fixes closing reaches a tell below;
      closes = closes-found fixes closing a reach (tell.1 a reach below ∙ le-leb reach reach (omega arith));
      greatest = λ c closed. leb-true c reach (sym (tell.1 a c below) ∙ closes-shown fixes closing a c closed);
    }

Some-item : {X : Type 0} {x y : X} → Some x ≡ Some y → x ≡ y
Some-item {x = x} is = ap (λ o. unwrap_or o x) is

-- a list of three is that of what stands at its three places
pub three-listed : {X : Type 0} (xs : List X) (a b c : X) → length xs ≡ 3 → slice_get xs 0 ≡ Some a → slice_get xs 1 ≡ Some b → slice_get xs 2 ≡ Some c → a ∷ b ∷ c ∷ [] ≡ xs
three-listed [] a b c long first second third = absurd (omega (arith, long))
three-listed (p ∷ []) a b c long first second third = absurd (omega (arith, long))
three-listed (p ∷ q ∷ []) a b c long first second third = absurd (omega (arith, long))
three-listed (p ∷ q ∷ r ∷ s ∷ xs) a b c long first second third = absurd (omega (arith, long))
three-listed (p ∷ q ∷ r ∷ []) a b c long first second third =
    sym (λ i. Some-item first i ∷ Some-item second i ∷ Some-item third i ∷ [])

-- the place that a tuple chooses on one of the three axes, as the code reads it
pub place-is : (g : TriangleGoal) (tuple : Tuple) (k : ℕ) → IsTuple g.lists.lists (places_of tuple) → k < 3 → get_or tuple.places k 0 ≡ slice_index (chosen g.lists.lists (places_of tuple)) k - g.first
place-is g tuple k fits below =
    let P : List (List ℕ) → Type 0 = λ axes. IsTuple axes (places_of tuple) in
    let three = subst P g.axes fits in
    let read = tuple-place g.lists.lists tuple k fits (omega (arith, below, ap length g.axes)) in
    sym read ∙ sym (three-place g.first g.last (places_of tuple) k three below) ∙ ap (λ (axes : List (List ℕ)). slice_index (chosen axes (places_of tuple)) k - g.first) (sym g.axes)

-- and it is one of the fixes from the first to the last
pub place-in : (g : TriangleGoal) (tuple : Tuple) (k : ℕ) → IsTuple g.lists.lists (places_of tuple) → k < 3 → get_or tuple.places k 0 ≤ g.last - g.first
place-in g tuple k fits below =
    let three = ap (λ (axes : List (List ℕ)). length (get_or axes k [])) g.axes ∙ ap length (three_axis g.first g.last k below) ∙ length-numbers_between g.first g.last in
    omega (arith, place-within g.lists.lists tuple k fits (omega (arith, below, ap length g.axes)), three)

-- the end of a span of a cell, as the code reads it
pub end-in : (g : TriangleGoal) (cell : Cell) (k : ℕ) (span : Span) → Covers (whole_cell (three_axes g.first g.last)) (spans_of cell) → k < 3 → (get_or cell.spans k span).hi ≤ g.last - g.first
end-in g cell k span covers below =
    let axes = three_axes g.first g.last in
    let three = ap length (three_axis g.first g.last k below) ∙ length-numbers_between g.first g.last in
    let some : All (λ (axis : List ℕ). 0 < length axis) axes = λ j other inside. omega
    (arith, ap length (get_or_default axes j other [] inside), ap length (three_axis g.first g.last j inside), length-numbers_between g.first g.last) in
    omega (arith, cell-within axes cell k span some covers below, three)

-- the hulls of the three spans
pub three_hulls : (g : TriangleGoal) (cell : Cell) (a b c : Box) → Covers (whole_cell g.lists.lists) (spans_of cell) → slice_get (hulls_of g.lists.fixes g.lists.lists (spans_of cell)) 0 ≡ Some a
    → slice_get (hulls_of g.lists.fixes g.lists.lists (spans_of cell)) 1 ≡ Some b → slice_get (hulls_of g.lists.fixes g.lists.lists (spans_of cell)) 2 ≡ Some c
    → a ∷ b ∷ c ∷ [] ≡ hulls_of g.lists.fixes g.lists.lists (spans_of cell)
three_hulls g cell a b c covers first second third =
    let sized : length (spans_of cell) ≡ length g.lists.lists = omega (arith, length-covers (whole_cell g.lists.lists) (spans_of cell) covers, length-whole g.lists.lists) in
    three-listed (hulls_of g.lists.fixes g.lists.lists (spans_of cell)) a b c (length-hulls_of g.lists.fixes g.lists.lists (spans_of cell) sized ∙ ap length g.axes) first second third
