-- What the spans of a cell say of the legal tuples in it.
use Rattle.std.proofs.Common.{◌≡◌, ◌∙◌, sym, ap, subst, ℕ, ◌+◌, ◌-◌, ◌<◌, ◌≤◌, List, [], ◌∷◌, length, get_or, map, slice_get, slice_set, arith}
use Rattle.std.specs.Prelude.{IfNone, IfSome, IsTrue, None, Option, Some, max, min}
use Rattle.std.proofs.lemmas.Option.{get_or_from_slice_get}
use Rattle.gl_box.specs.declared.span.Span.{Span}
use Rattle.gl_box.specs.Cell.{Holds, ends}
use Rattle.gl_box.specs.Halves.{IsSingle, span_at}
use Rattle.gl_box.proofs.Nodes.{single_is_point}
use Rattle.gl_igc.specs.declared.fix.Fix.{Fix}
use Rattle.gl_box.proofs.Held.{holds_at}
use Rattle.gl_goal.specs.Box.{IsInside}
use Rattle.gl_goal.specs.declared.triangle.TriangleGoal.{TriangleGoal}
use Rattle.gl_sphere.specs.Distance.{distance}
use Rattle.gl_goal.specs.Free.{numbers_between}
use Rattle.gl_goal.specs.Goal.{IsLegal, IsTuple, value, whole_cell}
use Rattle.gl_goal.specs.Triangle.{closes, triangle_goal}
use Rattle.gl_goal.specs.TriangleGoal.{triangle_rule}
use Rattle.gl_goal.specs.Lemmas.Chain.{distance-at_least, distance-at_most, hull_of-holds}
use Rattle.gl_goal.specs.Lemmas.Closing.{closes-wider}
use Rattle.gl_goal.specs.Lemmas.Free.{length-numbers_between}
use Rattle.gl_triangle.specs.declared.legs.Legs.{Legs}
use Rattle.gl_triangle.specs.declared.node.Node.{Node}
use Rattle.gl_triangle.specs.declared.places.Places.{Places}
use Rattle.gl_triangle.specs.declared.spans.Corner.{Corner}
use Rattle.gl_triangle.specs.declared.spans.Corner.TheVariants.{First, Second, Third}
use Rattle.gl_triangle.specs.declared.spans.Spans.{Spans}
use Rattle.gl_triangle.specs.Code.Legs.{AreAtMost, AreFair, AreLegs, hull_in}
use Rattle.gl_triangle.specs.declared.order.Order.{Order}
use Rattle.gl_triangle.specs.Code.Node.{AreNumbered, HoldsNoMore, IsNode, fixes_of}
use Rattle.gl_triangle.specs.Code.Order.{Counts, IsOrder, in_time, number_at, ordered_fixes, worth_at}
use Rattle.gl_triangle.specs.Code.Places.{AreAmong, places_in}
use Rattle.gl_triangle.specs.Code.Spans.{AreWithin, all_places, axis_of, cell_of}
use Rattle.gl_triangle.proofs.Fair.{legs_fair}
use Rattle.gl_triangle.proofs.Orders.{counted_round, fix_at_place, length-ordered, number_below}
use Rattle.gl_triangle.proofs.Rounds.{IsRound, length-fixes_of, legal_places}
use Rattle.gl_box.proofs.Lows.{point_low}

-- places with fixes are a tuple
pub among_tuple : (goal : TriangleGoal) (places : Places) → AreAmong (fixes_of goal) places → IsTuple (triangle_rule goal).axes (places_in places)
unfolding triangle_goal
among_tuple goal places among =
    let size = length-fixes_of goal in
    let numbers = length-numbers_between goal.first goal.last in
    (omega (arith, size, numbers, among.first), (omega (arith, size, numbers, among.second), (omega (arith, size, numbers, among.third), tt)))

-- legs that were measured are fair, and together so long
pub record Measured (legs : Legs) (all : ℕ) : Type 0 where
  pub first : ℕ
  pub second : ℕ
  pub third : ℕ
  pub are_fair : AreFair legs first second third
  pub sum_is : all ≡ first + second + third

-- the fix at a place of a span lies in the hull of the span
in_hull : (fixes : List Fix) (span : Span) (place : ℕ) (fix : Fix) → span.hi < length fixes → span.lo ≤ place → place ≤ span.hi → slice_get fixes place ≡ Some fix
    → IsInside (hull_in fixes span) fix.at
in_hull fixes span place fix within low high is =
    (hull_of-holds fixes (ends span) place fix low high within (get_or_from_slice_get fixes place fix fix is)).inside

-- three places in spans whose fixes have fair legs
pub legs_held : (fixes ordered : List Fix) (order : Order) (spans : Spans) (legs : Legs) (worth p q r : ℕ)
    → ((place : ℕ) (fix : Fix) → place < length ordered → slice_get fixes (number_at order place) ≡ Some fix → slice_get ordered place ≡ Some fix) → AreWithin ordered spans
    → AreLegs ordered spans legs → Holds (cell_of spans) (p ∷ q ∷ r ∷ []) → IsRound fixes worth (number_at order p) (number_at order q) (number_at order r) → Measured legs worth
legs_held fixes ordered order spans legs worth p q r at_place within are held round =
    let a = holds_at (cell_of spans) (p ∷ q ∷ r ∷ []) 0 held (omega arith) in
    let b = holds_at (cell_of spans) (p ∷ q ∷ r ∷ []) 1 held (omega arith) in
    let c = holds_at (cell_of spans) (p ∷ q ∷ r ∷ []) 2 held (omega arith) in
    let at_p = in_hull ordered spans.first p round.first within.first a.0 a.1 (at_place p round.first (omega (arith, a.1, within.first)) round.first_is) in
    let at_q = in_hull ordered spans.second q round.second within.second b.0 b.1 (at_place q round.second (omega (arith, b.1, within.second)) round.second_is) in
    let at_r = in_hull ordered spans.third r round.third within.third c.0 c.1 (at_place r round.third (omega (arith, c.1, within.third)) round.third_is) in
    let hull_p = hull_in ordered spans.first in
    let hull_q = hull_in ordered spans.second in
    let hull_r = hull_in ordered spans.third in
    let x = round.first.at in
    let y = round.second.at in
    let z = round.third.at in
    record {
      first = distance x y;
      second = distance y z;
      third = distance z x;
      are_fair = record {
        first_between = (omega (arith, are.first.least, distance-at_least hull_p hull_q x y at_p at_q), omega (arith, are.first.most, distance-at_most hull_p hull_q x y at_p at_q));
        second_between = (omega (arith, are.second.least, distance-at_least hull_q hull_r y z at_q at_r), omega (arith, are.second.most, distance-at_most hull_q hull_r y z at_q at_r));
        third_between = (omega (arith, are.third.least, distance-at_least hull_r hull_p z x at_r at_p), omega (arith, are.third.most, distance-at_most hull_r hull_p z x at_r at_p));
        allowed = legs_fair (distance x y) (distance y z) (distance z x) round.fair;
      };
      sum_is = round.worth_is;
    }

-- there are fixes in the spans in every order
pub within_fixes : (fixes : List Fix) (order : Order) (spans : Spans) → IsOrder fixes order → AreWithin (ordered_fixes fixes order) spans → AreWithin fixes spans
within_fixes fixes order spans is within =
    let size = length-ordered fixes order is in
    record { first = omega (arith, size, within.first); second = omega (arith, size, within.second); third = omega (arith, size, within.third) }

pub within_ordered : (fixes : List Fix) (order : Order) (spans : Spans) → IsOrder fixes order → AreWithin fixes spans → AreWithin (ordered_fixes fixes order) spans
within_ordered fixes order spans is within =
    let size = length-ordered fixes order is in
    record { first = omega (arith, size, within.first); second = omega (arith, size, within.second); third = omega (arith, size, within.third) }

-- so three places in spans are worth no more than fair legs between these
pub at_most_held : (goal : TriangleGoal) (order : Order) (spans : Spans) (legs : Legs) (most : ℕ) → IsOrder (fixes_of goal) order → AreWithin (fixes_of goal) spans
    → AreLegs (ordered_fixes (fixes_of goal) order) spans legs → AreAtMost legs most → HoldsNoMore goal order (cell_of spans) most
unfolding triangle_goal
at_most_held goal order spans legs most is_order within are at_most [] counts held = absurd counts.is_tuple
at_most_held goal order spans legs most is_order within are at_most (p ∷ []) counts held = absurd counts.is_tuple.1
at_most_held goal order spans legs most is_order within are at_most (p ∷ q ∷ []) counts held = absurd counts.is_tuple.1.1
at_most_held goal order spans legs most is_order within are at_most (p ∷ q ∷ r ∷ s ∷ places) counts held = absurd counts.is_tuple.1.1.1
at_most_held goal order spans legs most is_order within are at_most (p ∷ q ∷ r ∷ []) counts held =
    let fixes = fixes_of goal in
    let ordered = ordered_fixes fixes order in
    let tuple : List ℕ = p ∷ q ∷ r ∷ [] in
    let round = counted_round goal order p q r counts in
    let all_within = within_ordered fixes order spans is_order within in
    let legs_are = legs_held fixes ordered order spans legs (worth_at goal order tuple) p q r (fix_at_place fixes order is_order) all_within are held round in
    omega (arith, legs_are.sum_is, at_most legs_are.first legs_are.second legs_are.third legs_are.are_fair)

-- what the ends of spans say that hold three places that count
pub record Possible (goal : TriangleGoal) (spans numbers : Spans) : Type 0 where
  pub second_later : spans.first.lo ≤ spans.second.hi
  pub third_later : spans.first.lo ≤ spans.third.hi
  pub third_after : spans.second.lo ≤ spans.third.hi
  pub closing : IsTrue (closes (fixes_of goal) goal.closing (min (min numbers.first.hi numbers.second.hi) numbers.third.hi) (max (max numbers.first.lo numbers.second.lo) numbers.third.lo))

pub possible : (goal : TriangleGoal) (order : Order) (spans numbers : Spans) (tuple : List ℕ) → AreNumbered order spans numbers → Counts goal order tuple → Holds (cell_of spans) tuple
    → Possible goal spans numbers
unfolding triangle_goal
possible goal order spans numbers [] numbered counts held = absurd counts.is_tuple
possible goal order spans numbers (p ∷ []) numbered counts held = absurd counts.is_tuple.1
possible goal order spans numbers (p ∷ q ∷ []) numbered counts held = absurd counts.is_tuple.1.1
possible goal order spans numbers (p ∷ q ∷ r ∷ s ∷ places) numbered counts held = absurd counts.is_tuple.1.1.1
possible goal order spans numbers (p ∷ q ∷ r ∷ []) numbered counts held =
    let tuple : List ℕ = p ∷ q ∷ r ∷ [] in
    let a = holds_at (cell_of spans) tuple 0 held (omega arith) in
    let b = holds_at (cell_of spans) tuple 1 held (omega arith) in
    let c = holds_at (cell_of spans) tuple 2 held (omega arith) in
    let one = numbered.first p a.0 a.1 in
    let two = numbered.second q b.0 b.1 in
    let three = numbered.third r c.0 c.1 in
    let places = legal_places goal (in_time order tuple) counts.legal in
    record {
      second_later = omega (arith, a.0, b.1, counts.second_later);
      third_later = omega (arith, a.0, c.1, counts.second_later, counts.third_later);
      third_after = omega (arith, b.0, c.1, counts.third_later);
      closing = closes-wider (fixes_of goal) goal.closing _ _ _ _ (omega (arith, one, two, three)) (omega (arith, one, two, three)) places.closing;
    }

-- the whole cell has each place at each corner
pub whole_cell-is : (goal : TriangleGoal) → whole_cell (triangle_rule goal).axes ≡ all_places (length (fixes_of goal))
unfolding triangle_goal
whole_cell-is goal =
    let same : length (numbers_between goal.first goal.last) - 1 ≡ length (fixes_of goal) - 1 = omega (arith, length-fixes_of goal, length-numbers_between goal.first goal.last) in
    let three : ℕ → List (ℕ × ℕ) = λ n. (0, n) ∷ (0, n) ∷ (0, n) ∷ [] in
    ap three same

-- all numbers lie between the ends of the whole span
pub whole_numbered : (fixes : List Fix) (order : Order) (spans : Spans) → IsOrder fixes order → 0 < length fixes → cell_of spans ≡ all_places (length fixes) → AreNumbered order spans spans
whole_numbered fixes order spans is some_ cell =
    let first = ap (λ (c : List (ℕ × ℕ)). (span_at c 0).0) cell in
    let first_end = ap (λ (c : List (ℕ × ℕ)). (span_at c 0).1) cell in
    let second = ap (λ (c : List (ℕ × ℕ)). (span_at c 1).0) cell in
    let second_end = ap (λ (c : List (ℕ × ℕ)). (span_at c 1).1) cell in
    let third = ap (λ (c : List (ℕ × ℕ)). (span_at c 2).0) cell in
    let third_end = ap (λ (c : List (ℕ × ℕ)). (span_at c 2).1) cell in
    record {
      first = λ place low high. (omega (arith, first), omega (arith, first_end, number_below fixes order is place (omega (arith, high, first_end, some_))));
      second = λ place low high. (omega (arith, second), omega (arith, second_end, number_below fixes order is place (omega (arith, high, second_end, some_))));
      third = λ place low high. (omega (arith, third), omega (arith, third_end, number_below fixes order is place (omega (arith, high, third_end, some_))));
    }

-- what is left out for legs is left out for the cell between whose hulls they are
pub none_held : (goal : TriangleGoal) (order : Order) (spans : Spans) (legs : Legs) (known : ℕ) (cell : List (ℕ × ℕ)) (node : Option Node) → IsOrder (fixes_of goal) order
    → AreWithin (fixes_of goal) spans → AreLegs (ordered_fixes (fixes_of goal) order) spans legs → cell_of spans ≡ cell → IfNone node (AreAtMost legs known)
    → IfNone node (HoldsNoMore goal order cell known)
none_held goal order spans legs known cell None is_order within are is at_most =
    subst (λ (c : List (ℕ × ℕ)). HoldsNoMore goal order c known) is (at_most_held goal order spans legs known is_order within are at_most)
none_held goal order spans legs known cell (Some node) is_order within are is at_most = tt

-- there are fixes in spans of which one was replaced
pub within_with : (fixes : List Fix) (spans part : Spans) (corner : Corner) (span : Span) → cell_of part ≡ slice_set (cell_of spans) (axis_of corner) (ends span) → AreWithin fixes spans
    → span.hi < length fixes → AreWithin fixes part
within_with fixes spans part First span is within inside =
    let a = ap (λ (cell : List (ℕ × ℕ)). (span_at cell 0).1) is in
    let b = ap (λ (cell : List (ℕ × ℕ)). (span_at cell 1).1) is in
    let c = ap (λ (cell : List (ℕ × ℕ)). (span_at cell 2).1) is in
    record { first = omega (arith, a); second = omega (arith, b, within.second); third = omega (arith, c, within.third) }
within_with fixes spans part Second span is within inside =
    let a = ap (λ (cell : List (ℕ × ℕ)). (span_at cell 0).1) is in
    let b = ap (λ (cell : List (ℕ × ℕ)). (span_at cell 1).1) is in
    let c = ap (λ (cell : List (ℕ × ℕ)). (span_at cell 2).1) is in
    record { first = omega (arith, a, within.first); second = omega (arith, b); third = omega (arith, c, within.third) }
within_with fixes spans part Third span is within inside =
    let a = ap (λ (cell : List (ℕ × ℕ)). (span_at cell 0).1) is in
    let b = ap (λ (cell : List (ℕ × ℕ)). (span_at cell 1).1) is in
    let c = ap (λ (cell : List (ℕ × ℕ)). (span_at cell 2).1) is in
    record { first = omega (arith, a, within.first); second = omega (arith, b, within.second); third = omega (arith, c) }

-- there is a fix at the first place of each span
pub lowest_among : (goal : TriangleGoal) (spans : Spans) (places : Places) → AreWithin (fixes_of goal) spans → places_in places ≡ map (λ span. span.0) (cell_of spans) → AreAmong (fixes_of goal) places
lowest_among goal spans places within is = record {
  first = omega (arith, within.first, spans.first.ordered, ap (λ (ps : List ℕ). get_or ps 0 0) is);
  second = omega (arith, within.second, spans.second.ordered, ap (λ (ps : List ℕ). get_or ps 1 0) is);
  third = omega (arith, within.third, spans.third.ordered, ap (λ (ps : List ℕ). get_or ps 2 0) is);
}

-- a cell of single places holds no more than its only tuple is worth
pub single_held : (goal : TriangleGoal) (order : Order) (cell : List (ℕ × ℕ)) (places numbers : List ℕ) (most : ℕ) → IsSingle cell → places ≡ map (λ span. span.0) cell → numbers ≡ in_time order places
    → (IsLegal (triangle_rule goal) numbers → value (triangle_rule goal) numbers ≤ most) → HoldsNoMore goal order cell most
single_held goal order cell places numbers most single is named considered = λ tuple counts held.
    let same : places ≡ tuple = is ∙ ap (λ (c : List (ℕ × ℕ)). map (λ (span : ℕ × ℕ). span.0) c) (single_is_point cell tuple single held) ∙ point_low tuple in
    let these : numbers ≡ in_time order tuple = named ∙ ap (in_time order) same in
    subst (λ (t : List ℕ). value (triangle_rule goal) t ≤ most) these (considered (subst (IsLegal (triangle_rule goal)) (sym these) counts.legal))

-- a node that was made of spans, numbers and legs
pub made_node : (fixes : List Fix) (order : Order) (spans numbers : Spans) (legs : Legs) (node : Option Node) → AreWithin fixes spans → AreWithin fixes numbers → AreNumbered order spans numbers
    → AreLegs (ordered_fixes fixes order) spans legs → IfSome node (λ made. made.spans ≡ spans) → IfSome node (λ made. made.numbers ≡ numbers) → IfSome node (λ made. made.legs ≡ legs)
    → IfSome node (λ made. AreAtMost legs made.bound) → IfSome node (IsNode fixes order)
made_node fixes order spans numbers legs None within numbers_within numbered are same_spans same_numbers same_legs bound = tt
made_node fixes order spans numbers legs (Some node) within numbers_within numbered are same_spans same_numbers same_legs bound = record {
  within = subst (AreWithin fixes) (sym same_spans) within;
  numbers_within = subst (AreWithin fixes) (sym same_numbers) numbers_within;
  numbered = subst (λ (s : Spans). AreNumbered order s node.numbers) (sym same_spans) (subst (AreNumbered order spans) (sym same_numbers) numbered);
  legs = subst (λ (s : Spans). AreLegs (ordered_fixes fixes order) s node.legs) (sym same_spans) (subst (AreLegs (ordered_fixes fixes order) spans) (sym same_legs) are);
  bound = subst (λ (l : Legs). AreAtMost l node.bound) (sym same_legs) bound;
}

-- its cell is that of the spans
pub made_cell : (spans : Spans) (cell : List (ℕ × ℕ)) (node : Option Node) → cell_of spans ≡ cell → IfSome node (λ made. made.spans ≡ spans) → IfSome node (λ made. cell_of made.spans ≡ cell)
made_cell spans cell None is same = tt
made_cell spans cell (Some node) is same = ap cell_of same ∙ is
