-- Nodes that take the place of another, and the work that open nodes can still make.
use Rattle.std.proofs.Common.{◌≡◌, ◌∙◌, sym, ap, subst, ℕ, zero, suc, ◌+◌, ◌<◌, ◌≤◌, ◌⊎◌, inl, inr, List, [], ◌∷◌, ◌++◌, length, slice_set, append_assoc, arith}
use Rattle.std.specs.Prelude.{All, IfNone, IfSome, Option, None, Some}
use Rattle.std.specs.Option.{option_to_list}
use Rattle.std.proofs.lemmas.Bool.{cases_Bool, cases_lt}
use Rattle.std.proofs.lemmas.List.{get_or_append_left, get_or-append-add, length-append}
use Rattle.std.proofs.lemmas.List.Elements.{All-append, All-pop, All-push}
use Rattle.gl_box.specs.Cell.{Holds, holds}
use Rattle.gl_box.specs.Tuple.{places_of}
use Rattle.gl_box.specs.Halves.{span_at, width}
use Rattle.gl_box.proofs.Held.{holds_parts, holds_whole}
use Rattle.gl_goal.specs.declared.triangle.TriangleGoal.{TriangleGoal}
use Rattle.gl_goal.specs.Goal.{IsLegal, IsOptimum, value, whole_cell}
use Rattle.gl_goal.proofs.Order.{tuple_held}
use Rattle.gl_goal.specs.TriangleGoal.{triangle_rule}
use Rattle.gl_goal.specs.declared.best.Best.{Best}
use Rattle.gl_goal.specs.Best.{IsSound, total_of}
use Rattle.gl_triangle.specs.declared.node.Node.{Node}
use Rattle.gl_triangle.specs.declared.order.Order.{Order}
use Rattle.gl_triangle.specs.declared.spans.Corner.{Corner}
use Rattle.gl_triangle.specs.declared.spans.Corner.TheVariants.{First, Second, Third}
use Rattle.gl_triangle.specs.declared.spans.Spans.{Spans}
use Rattle.gl_triangle.specs.Code.Node.{HoldsNoMore, IsNode, IsVisited, NoneHolds, Replace, fixes_of}
use Rattle.gl_triangle.specs.Code.Order.{Counts, IsOrder, worth_at}
use Rattle.gl_triangle.specs.Code.Search.{IsUnderWay, worth_of}
use Rattle.gl_triangle.specs.Code.Spans.{axis_of, cell_of, reach_of}
use Rattle.gl_triangle.proofs.Cells.{at_most_held}
use Rattle.gl_triangle.proofs.Orders.{counted}
use Rattle.gl_triangle.proofs.Rounds.{legal_places}

-- of what a cell holds, one of two parts of a span holds each tuple
pub part_holds : (cell : List (ℕ × ℕ)) (tuple : List ℕ) (axis middle : ℕ) → Holds cell tuple
    → Holds (slice_set cell axis ((span_at cell axis).0, middle)) tuple ⊎ Holds (slice_set cell axis (middle + 1, (span_at cell axis).1)) tuple
part_holds [] tuple axis middle held = inl held
part_holds (s ∷ ss) [] axis middle held = absurd (cc)
part_holds (s ∷ ss) (p ∷ ps) zero middle held =
    let parts = holds_parts s ss p ps held in
    elim (cases_lt middle p) [
      | inl above ↦ inr (holds_whole (middle + 1, s.1) ss p ps (omega arith) parts.1 parts.2)
      | inr below ↦ inl (holds_whole (s.0, middle) ss p ps parts.0 below parts.2)
    ]
part_holds (s ∷ ss) (p ∷ ps) (suc axis) middle held =
    let parts = holds_parts s ss p ps held in
    elim (part_holds ss ps axis middle parts.2) [
      | inl low ↦ inl (holds_whole s (slice_set ss axis ((span_at ss axis).0, middle)) p ps parts.0 parts.1 low)
      | inr high ↦ inr (holds_whole s (slice_set ss axis (middle + 1, (span_at ss axis).1)) p ps parts.0 parts.1 high)
    ]

-- spans reach less far with a narrower one at a corner
pub narrower : (spans part : Spans) (corner : Corner) (span : ℕ × ℕ) → cell_of part ≡ slice_set (cell_of spans) (axis_of corner) span → width span < width (span_at (cell_of spans) (axis_of corner))
    → reach_of part < reach_of spans
narrower spans part First span is less =
    omega (arith, less, ap (λ (cell : List (ℕ × ℕ)). width (span_at cell 0)) is, ap (λ (cell : List (ℕ × ℕ)). width (span_at cell 1)) is, ap (λ (cell : List (ℕ × ℕ)). width (span_at cell 2)) is)
narrower spans part Second span is less =
    omega (arith, less, ap (λ (cell : List (ℕ × ℕ)). width (span_at cell 0)) is, ap (λ (cell : List (ℕ × ℕ)). width (span_at cell 1)) is, ap (λ (cell : List (ℕ × ℕ)). width (span_at cell 2)) is)
narrower spans part Third span is less =
    omega (arith, less, ap (λ (cell : List (ℕ × ℕ)). width (span_at cell 0)) is, ap (λ (cell : List (ℕ × ℕ)). width (span_at cell 1)) is, ap (λ (cell : List (ℕ × ℕ)). width (span_at cell 2)) is)

-- a half of a node, which may have been left out
pub record Half (goal : TriangleGoal) (order : Order) (node : Node) (known : ℕ) (cell : List (ℕ × ℕ)) (half : Option Node) : Type 0 where
  pub is_node : IfSome half (IsNode (fixes_of goal) order)
  pub spans : IfSome half (λ part. cell_of part.spans ≡ cell)
  pub left_out : IfNone half (HoldsNoMore goal order cell known)
  pub less : (part : Node) → cell_of part.spans ≡ cell → reach_of part.spans < reach_of node.spans

two_parts : (P : Node → Type 0) (one other : Option Node) → IfSome one P → IfSome other P → All P (option_to_list one ++ option_to_list other)
two_parts P None None a b = λ k d below. absurd (omega arith)
two_parts P None (Some y) a b = elim [ zero ↦ λ d below. b | suc k ↦ λ d below. absurd (omega arith) ]
two_parts P (Some x) None a b = elim [ zero ↦ λ d below. a | suc k ↦ λ d below. absurd (omega arith) ]
two_parts P (Some x) (Some y) a b = elim [ zero ↦ λ d below. a | suc zero ↦ λ d below. b | suc (suc k) ↦ λ d below. absurd (omega arith) ]

two_few : (one other : Option Node) → length (option_to_list one ++ option_to_list other) ≤ 2
two_few None None = omega arith
two_few None (Some y) = omega arith
two_few (Some x) None = omega arith
two_few (Some x) (Some y) = omega arith

All-left : (P : Node → Type 0) (xs ys : List Node) → All P (xs ++ ys) → All P xs
All-left P xs ys all k d below =
    subst P (get_or_append_left xs ys d k below) (all k d (omega (arith, below, length-append xs ys)))

All-right : (P : Node → Type 0) (xs ys : List Node) → All P (xs ++ ys) → All P ys
All-right P xs ys all k d below =
    subst P (get_or-append-add xs ys k d) (all (length xs + k) d (omega (arith, below, length-append xs ys)))

some_left : (P : Node → Type 0) (one : Option Node) → All P (option_to_list one) → IfSome one P
some_left P None all = tt
some_left P (Some x) all = all 0 x (omega arith)

half_less : (goal : TriangleGoal) (order : Order) (node : Node) (known : ℕ) (cell : List (ℕ × ℕ)) (half : Option Node) → Half goal order node known cell half
    → IfSome half (λ part. reach_of part.spans < reach_of node.spans)
half_less goal order node known cell None is = tt
half_less goal order node known cell (Some part) is = is.less part is.spans

-- what a half holds and no node of it is worth no more than what was known
half_rest : (goal : TriangleGoal) (order : Order) (node : Node) (known : ℕ) (cell : List (ℕ × ℕ)) (half : Option Node) (tuple : List ℕ) → Half goal order node known cell half → Counts goal order tuple
    → Holds cell tuple → IfSome half (λ part. Holds (cell_of part.spans) tuple → ⊥) → worth_at goal order tuple ≤ known
half_rest goal order node known cell None tuple is legal held none = is.left_out tuple legal held
half_rest goal order node known cell (Some part) tuple is legal held none = absurd (none (subst (λ (c : List (ℕ × ℕ)). Holds c tuple) (sym is.spans) held))

-- two halves take the place of a node whose tuples they hold
pub replaced : (goal : TriangleGoal) (order : Order) (node : Node) (known most : ℕ) (one other : List (ℕ × ℕ)) (a b : Option Node) → Half goal order node known one a
    → Half goal order node known other b → ((tuple : List ℕ) → Holds (cell_of node.spans) tuple → Holds one tuple ⊎ Holds other tuple) → known ≤ most
    → Replace goal order node most (option_to_list a ++ option_to_list b)
replaced goal order node known most one other a b half_a half_b parted more = record {
  few = two_few a b;
  are_nodes = two_parts (IsNode (fixes_of goal) order) a b half_a.is_node half_b.is_node;
  narrower = two_parts (λ part. reach_of part.spans < reach_of node.spans) a b (half_less goal order node known one a half_a) (half_less goal order node known other b half_b);
  rest = λ tuple legal held none.
      let P : Node → Type 0 = λ part. Holds (cell_of part.spans) tuple → ⊥ in
      let none_a = some_left P a (All-left P (option_to_list a) (option_to_list b) none) in
      let none_b = some_left P b (All-right P (option_to_list a) (option_to_list b) none) in
      elim (parted tuple held) [
        | inl low ↦ omega (arith, more, half_rest goal order node known one a tuple half_a legal low none_a)
        | inr high ↦ omega (arith, more, half_rest goal order node known other b tuple half_b legal high none_b)
      ];
}

parted : (spans : Spans) (corner : Corner) (span : ℕ × ℕ) (middle : ℕ) → span ≡ span_at (cell_of spans) (axis_of corner) → (tuple : List ℕ) → Holds (cell_of spans) tuple
    → Holds (slice_set (cell_of spans) (axis_of corner) (span.0, middle)) tuple ⊎ Holds (slice_set (cell_of spans) (axis_of corner) (middle + 1, span.1)) tuple
parted spans corner span middle is tuple held =
    let P : ℕ × ℕ → Type 0 = λ s. Holds (slice_set (cell_of spans) (axis_of corner) (s.0, middle)) tuple ⊎ Holds (slice_set (cell_of spans) (axis_of corner) (middle + 1, s.1)) tuple in
    subst P (sym is) (part_holds (cell_of spans) tuple (axis_of corner) middle held)

put : (goal : TriangleGoal) (order : Order) (node : Node) (most : ℕ) (one other : List (ℕ × ℕ)) (less greater : Option Node) (before between after : List Node) → Half goal order node most one less
    → Half goal order node most other greater → ((tuple : List ℕ) → Holds (cell_of node.spans) tuple → Holds one tuple ⊎ Holds other tuple) → between ≡ before ++ option_to_list less
    → after ≡ between ++ option_to_list greater → IsVisited goal order node most before after
put goal order node most one other less greater before between after half_less half_greater parted first second = record {
  added = option_to_list less ++ option_to_list greater;
  on_top = second ∙ ap (λ (nodes : List Node). nodes ++ option_to_list greater) first ∙ append_assoc before (option_to_list less) (option_to_list greater);
  replace = replaced goal order node most most one other less greater half_less half_greater parted (omega arith);
}

-- what is known of the halves of a node when they were tested
pub record Tested (goal : TriangleGoal) (order : Order) (node : Node) (known : ℕ) (cell : List (ℕ × ℕ)) (half : Option Node) : Type 0 where
  pub is_node : IfSome half (IsNode (fixes_of goal) order)
  pub spans : IfSome half (λ part. cell_of part.spans ≡ cell)
  pub left_out : IfNone half (HoldsNoMore goal order cell known)

other_way : (A B : Type 0) → A ⊎ B → B ⊎ A
other_way A B (inl a) = inr a
other_way A B (inr b) = inl b

-- the halves of a node, in either order, take its place
pub both_put : (goal : TriangleGoal) (order : Order) (node : Node) (corner : Corner) (span : ℕ × ℕ) (middle most : ℕ) (low high : Option Node) (pair : Option Node × Option Node)
    (before between after : List Node) → span ≡ span_at (cell_of node.spans) (axis_of corner) → span.0 ≤ middle → middle < span.1
    → Tested goal order node most (slice_set (cell_of node.spans) (axis_of corner) (span.0, middle)) low
    → Tested goal order node most (slice_set (cell_of node.spans) (axis_of corner) (middle + 1, span.1)) high → (pair ≡ (low, high)) ⊎ (pair ≡ (high, low)) → between ≡ before ++ option_to_list pair.0
    → after ≡ between ++ option_to_list pair.1 → IsVisited goal order node most before after
both_put goal order node corner span middle most low high pair before between after is from to tested_low tested_high either first second =
    let one = slice_set (cell_of node.spans) (axis_of corner) (span.0, middle) in
    let other = slice_set (cell_of node.spans) (axis_of corner) (middle + 1, span.1) in
    let wide = ap width is in
    let half_low : Half goal order node most one low = record {
      is_node = tested_low.is_node;
      spans = tested_low.spans;
      left_out = tested_low.left_out;
      less =
          λ part cell. narrower node.spans part.spans corner (span.0, middle) cell (omega arith);
    } in
    let half_high : Half goal order node most other high = record {
      is_node = tested_high.is_node;
      spans = tested_high.spans;
      left_out = tested_high.left_out;
      less =
          λ part cell. narrower node.spans part.spans corner (middle + 1, span.1) cell (omega arith);
    } in
    let parts = parted node.spans corner span middle is in
    elim either [
      | inl same ↦
          put goal order node most one other pair.0 pair.1 before between after
          (subst (Half goal order node most one) (sym (ap (λ (p : Option Node × Option Node). p.0) same)) half_low)
          (subst (Half goal order node most other) (sym (ap (λ (p : Option Node × Option Node). p.1) same)) half_high)
          parts first second
      | inr turned ↦
          put goal order node most other one pair.0 pair.1 before between after
          (subst (Half goal order node most other) (sym (ap (λ (p : Option Node × Option Node). p.0) turned)) half_high)
          (subst (Half goal order node most one) (sym (ap (λ (p : Option Node × Option Node). p.1) turned)) half_low)
          (λ tuple held. other_way _ _ (parts tuple held)) first second
    ]

-- nothing takes the place of a node that holds no better triangle
pub left_out : (goal : TriangleGoal) (order : Order) (node : Node) (most : ℕ) → HoldsNoMore goal order (cell_of node.spans) most → Replace goal order node most []
left_out goal order node most no_more = record {
  few = omega arith;
  are_nodes = λ k d below. absurd (omega arith);
  narrower = λ k d below. absurd (omega arith);
  rest = λ tuple legal held none. no_more tuple legal held;
}

-- a node whose bound isn't above what was found can be left out
pub bound_out : (goal : TriangleGoal) (order : Order) (node : Node) (most : ℕ) → IsOrder (fixes_of goal) order → IsNode (fixes_of goal) order node → node.bound ≤ most → Replace goal order node most []
bound_out goal order node most is_order is low =
    left_out goal order node most (λ tuple legal held. omega (arith, low, at_most_held goal order node.spans node.legs node.bound is_order is.within is.legs is.bound tuple legal held))

-- a search goes on after a node was looked at
pub goes_on : (goal : TriangleGoal) (order : Order) (old new : Option Best) (before rest after added : List Node) (node : Node) → before ≡ rest ++ node ∷ [] → after ≡ rest ++ added
    → IsUnderWay goal order old before → IsSound (triangle_rule goal) new → worth_of old ≤ worth_of new → Replace goal order node (worth_of new) added → IsUnderWay goal order new after
goes_on goal order old new before rest after added node top on_top way sound grows replace =
    let nodes = subst (All (IsNode (fixes_of goal) order)) top way.are_nodes in
    record {
      sound = sound;
      are_nodes = subst (All (IsNode (fixes_of goal) order)) (sym on_top)
          (All-append (IsNode (fixes_of goal) order) rest added (All-left (IsNode (fixes_of goal) order) rest (node ∷ []) nodes) replace.are_nodes);
      rest = λ tuple legal none.
          let P : Node → Type 0 = λ part. Holds (cell_of part.spans) tuple → ⊥ in
          let none_now : All P (rest ++ added) = subst (All P) on_top none in
          elim (cases_Bool (holds (cell_of node.spans) tuple)) [
            | inl held ↦ replace.rest tuple legal held (All-right P rest added none_now)
            | inr not_held ↦
                let none_before : All P (rest ++ node ∷ []) = All-push P rest node (All-left P rest added none_now) (λ held. absurd (cc)) in
                omega (arith, grows, way.rest tuple legal (subst (All P) (sym top) none_before))
          ];
    }

-- how many looks a node can take whose spans reach so far
unfoldable pub looks : ℕ → ℕ
looks zero = 1
looks (suc reach) = suc (looks reach + looks reach)

unfoldable pub work_of : List Node → ℕ
work_of [] = 0
work_of (node ∷ nodes) = looks (reach_of node.spans) + work_of nodes

looks_some : (reach : ℕ) → 0 < looks reach
unfolding looks
looks_some zero = omega arith
looks_some (suc reach) = omega arith

looks_more : (less more : ℕ) → less ≤ more → looks less ≤ looks more
unfolding looks
looks_more zero more order = looks_some more
looks_more (suc less) zero order = absurd (omega arith)
looks_more (suc less) (suc more) order = omega (arith, looks_more less more (omega arith))

looks_cut : (part all : ℕ) → part < all → looks part + looks part < looks all
unfolding looks
looks_cut part zero less = absurd (omega arith)
looks_cut part (suc all) less = omega (arith, looks_more part all (omega arith))

work_of-append : (xs ys : List Node) → work_of (xs ++ ys) ≡ work_of xs + work_of ys
unfolding work_of
work_of-append [] ys = omega arith
work_of-append (x ∷ xs) ys = omega (arith, work_of-append xs ys)

work_of-one : (node : Node) → work_of (node ∷ []) ≡ looks (reach_of node.spans)
unfolding work_of
work_of-one node = omega arith

work_few : (node : Node) (nodes : List Node) → length nodes ≤ 2 → All (λ part. reach_of part.spans < reach_of node.spans) nodes → work_of nodes < looks (reach_of node.spans)
unfolding work_of
work_few node [] few narrow = looks_some (reach_of node.spans)
work_few node (x ∷ []) few narrow = omega (arith, looks_cut (reach_of x.spans) (reach_of node.spans) (narrow 0 x (omega arith)))
work_few node (x ∷ y ∷ []) few narrow = omega (
  arith,
  looks_cut (reach_of x.spans) (reach_of node.spans) (narrow 0 x (omega arith)),
  looks_cut (reach_of y.spans) (reach_of node.spans) (narrow 1 y (omega arith)),
)
work_few node (x ∷ y ∷ z ∷ nodes) few narrow = absurd (omega arith)

-- each look leaves less work
pub work_falls : (goal : TriangleGoal) (order : Order) (node : Node) (most : ℕ) (before rest after added : List Node) → before ≡ rest ++ node ∷ [] → after ≡ rest ++ added
    → Replace goal order node most added → work_of after < work_of before
work_falls goal order node most before rest after added top on_top replace =
    omega (arith, ap work_of top, ap work_of on_top, work_of-append rest (node ∷ []), work_of-append rest added, work_of-one node, work_few node added replace.few replace.narrower)

-- the last of the open nodes is one
pub top_node : (goal : TriangleGoal) (order : Order) (best : Option Best) (before rest : List Node) (node : Node) → before ≡ rest ++ node ∷ [] → IsUnderWay goal order best before
    → IsNode (fixes_of goal) order node
top_node goal order best before rest node top way = (All-pop (IsNode (fixes_of goal) order) before rest (Some node) top way.are_nodes).1

-- what is known of the whole cell when it was tested
whole_rest : (goal : TriangleGoal) (order : Order) (known : ℕ) (whole : Option Node) (tuple : List ℕ) → IfSome whole (λ node. cell_of node.spans ≡ whole_cell (triangle_rule goal).axes)
    → IfNone whole (HoldsNoMore goal order (whole_cell (triangle_rule goal).axes) known) → Counts goal order tuple → NoneHolds (option_to_list whole) tuple → worth_at goal order tuple ≤ known
whole_rest goal order known None tuple is left legal none = left tuple legal (tuple_held (triangle_rule goal).axes tuple legal.is_tuple)
whole_rest goal order known (Some node) tuple is left legal none =
    absurd (none 0 node (omega arith) (subst (λ (cell : List (ℕ × ℕ)). Holds cell tuple) (sym is) (tuple_held (triangle_rule goal).axes tuple legal.is_tuple)))

whole_nodes : (P : Node → Type 0) (whole : Option Node) → IfSome whole P → All P (option_to_list whole)
whole_nodes P None is = λ k d below. absurd (omega arith)
whole_nodes P (Some node) is = elim [ zero ↦ λ d below. is | suc k ↦ λ d below. absurd (omega arith) ]

-- a search begins with the whole cell
pub begins : (goal : TriangleGoal) (order : Order) (best : Option Best) (whole : Option Node) (known : ℕ) (none nodes : List Node) → none ≡ [] → nodes ≡ none ++ option_to_list whole
    → known ≡ worth_of best → IsSound (triangle_rule goal) best → IfSome whole (IsNode (fixes_of goal) order) → IfSome whole (λ node. cell_of node.spans ≡ whole_cell (triangle_rule goal).axes)
    → IfNone whole (HoldsNoMore goal order (whole_cell (triangle_rule goal).axes) known) → IsUnderWay goal order best nodes
begins goal order best whole known none nodes empty first worth sound is cell left =
    let these : nodes ≡ option_to_list whole = first ∙ ap (λ (ns : List Node). ns ++ option_to_list whole) empty in
    record {
      sound = sound;
      are_nodes = subst (All (IsNode (fixes_of goal) order)) (sym these) (whole_nodes (IsNode (fixes_of goal) order) whole is);
      rest = λ tuple legal none_holds. omega (arith, worth, whole_rest goal order known whole tuple cell left legal (subst (λ (ns : List Node). NoneHolds ns tuple) these none_holds));
    }

within : (goal : TriangleGoal) (order : Order) (best : Option Best) → IsOrder (fixes_of goal) order → IsUnderWay goal order best [] → (tuple : List ℕ) → IsLegal (triangle_rule goal) tuple
    → value (triangle_rule goal) tuple ≤ worth_of best
within goal order best is_order way tuple legal =
    let found = counted goal order tuple is_order legal in
    omega (arith, ap (value (triangle_rule goal)) found.same, way.rest found.places found.counts (λ k d below. absurd (omega arith)))

-- where no node is open any more, what was found is the optimum
pub ends : (goal : TriangleGoal) (order : Order) (best : Option Best) → IsOrder (fixes_of goal) order → IsUnderWay goal order best [] → IsOptimum (triangle_rule goal) (total_of best)
ends goal order None is_order way = λ tuple legal. omega (arith, within goal order None is_order way tuple legal, (legal_places goal tuple legal).worth_some)
ends goal order (Some best) is_order way = ((places_of best.tuple, way.sound), within goal order (Some best) is_order way)
