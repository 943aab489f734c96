-- Cells that part a whole: they are the whole alone, or each lies in one of its halves, and those in a half part it.
use Rattle.std.proofs.Common.{◌≡◌, ◌≢◌, ◌∙◌, sym, ap, refl, subst, ℕ, zero, suc, ◌+◌, ◌/◌, ◌<◌, ◌≤◌, Bool, true, false, cond, ◌⊎◌, inl, inr, List, [], ◌∷◌, ◌++◌, length, get_or, take, drop, map, arith}
use Rattle.std.specs.Prelude.{All}
use Rattle.std.specs.List.{SwappedAt}
use Rattle.std.proofs.lemmas.Bool.{cases_lt, cases_order}
use Rattle.std.proofs.lemmas.List.{get_or_default, get_or-set_same, get_or-take, get_or-drop, get_or-map, length-drop, length-map, length-set, length-take, length-take-le, map-append, take-append-drop, take-map, drop-map}
use Rattle.std.specs.List.Sorted.{IsPermutation}
use Rattle.std.proofs.lemmas.List.Elements.{All-map}
use Rattle.std.proofs.lemmas.List.Sorted.{All-permutation, IsPermutation-map, length_permutation, sum_by-IsPermutation}
use Rattle.std.proofs.lemmas.List.Sums.{sum_by-cons, get_or-le-sum_by}
use Rattle.gl_box.specs.declared.span.Span.{Span}
use Rattle.gl_box.specs.declared.cell.Cell.{Cell}
use Rattle.gl_box.specs.Cell.{Holds, ends, holds, spans_of}
use Rattle.gl_box.specs.Halves.{AreHalves, IsHalf, IsSingle, IsWidest, span_at}
use Rattle.gl_box.specs.Frontier.{IsFrontier, IsNode, mult}
use Rattle.gl_box.specs.Frontier.IsFrontier.{alone, parted}
use Rattle.gl_box.specs.Frontier.IsNode.{whole, half}
use Rattle.gl_box.proofs.Held.{covers_at, holds_at, holds_whole, length-covers}
use Rattle.gl_box.proofs.Nodes.{covers_lower, covers_node, covers_upper, holds_through, member_node}
use Rattle.gl_box.proofs.Parts.{halves_parted, mult-append, mult-held}
use Rattle.gl_box.proofs.Singles.{AreOrdered, ordered-set}
use Rattle.gl_box.proofs.Spans.{single-narrow}
use Rattle.gl_box.proofs.Frontiers.{lower_unique, upper_unique, widest_unique}
use Rattle.gl_order.specs.Code.Ends.{EachBetween, EndsBy}
use Rattle.gl_order.specs.Order.{AreParts}

-- a half of a cell is a node of its lower or of its upper half
half_node : (cell lower upper part : List (ℕ × ℕ)) → AreHalves cell lower upper → IsHalf cell part → IsNode lower part ⊎ IsNode upper part
half_node cell lower upper part halves is_half = elim is_half.either [
  | inl low ↦ inl (subst (IsNode lower) (sym (low ∙ lower_unique cell is_half.lower is_half.upper lower upper is_half.halves halves)) (whole lower))
  | inr high ↦ inr (subst (IsNode upper) (sym (high ∙ upper_unique cell is_half.lower is_half.upper lower upper is_half.halves halves)) (whole upper))
]

-- a node of a cell is the cell, or a node of one of its halves
pub node_cases : (cell lower upper node : List (ℕ × ℕ)) → AreHalves cell lower upper → IsNode cell node → (node ≡ cell) ⊎ (IsNode lower node ⊎ IsNode upper node)
node_cases _ lower upper _ halves (whole cell) = inl refl
node_cases _ lower upper _ halves (half cell node part below is_half) = elim (node_cases cell lower upper node halves below) [
  | inl same ↦ inr (half_node cell lower upper part halves (subst (λ (n : List (ℕ × ℕ)). IsHalf n part) same is_half))
  | inr within ↦ elim within [
    | inl low ↦ inr (inl (half lower node part low is_half))
    | inr high ↦ inr (inr (half upper node part high is_half))
  ]
]

-- a cell of a single tuple is its only node
pub node-single : (cell node : List (ℕ × ℕ)) → IsSingle cell → IsNode cell node → node ≡ cell
node-single _ _ single (whole cell) = refl
node-single _ _ single (half cell node part below is_half) =
    let same = node-single cell node single below in
    let halves = subst (λ (n : List (ℕ × ℕ)). AreHalves n is_half.lower is_half.upper) same is_half.halves in
    absurd (omega (arith, single-narrow cell halves.axis single halves.widest.inside, halves.wide))

-- some tuple of a cell
abbrev pub HasTuple : List (ℕ × ℕ) → Type 0
HasTuple cell = (tuple : List ℕ) × Holds cell tuple

spans_ordered : (spans : List Span) → AreOrdered (map ends spans)
unfolding AreOrdered
spans_ordered [] = tt
spans_ordered (s ∷ ss) = (s.ordered, spans_ordered ss)

ordered_held : (cell : List (ℕ × ℕ)) → AreOrdered cell → HasTuple cell
unfolding AreOrdered
ordered_held [] ordered = ([], refl)
ordered_held (s ∷ ss) ordered =
    let rest = ordered_held ss ordered.1 in
    (s.0 ∷ rest.0, holds_whole s ss s.0 rest.0 (omega arith) ordered.0 rest.1)

cell_held : (cell : Cell) → HasTuple (spans_of cell)
cell_held cell = ordered_held (spans_of cell) (spans_ordered (take cell.axes cell.spans))

ordered_half : (cell part : List (ℕ × ℕ)) → IsHalf cell part → AreOrdered cell → AreOrdered part
ordered_half cell part is_half ordered =
    let halves = is_half.halves in
    let span = span_at cell halves.axis in
    let middle = (span.0 + span.1) / 2 in
    elim is_half.either [
      | inl low ↦ subst AreOrdered (sym (low ∙ halves.lower_is)) (ordered-set cell halves.axis (span.0, middle) ordered (omega (arith, halves.wide)))
      | inr high ↦ subst AreOrdered (sym (high ∙ halves.upper_is)) (ordered-set cell halves.axis (middle + 1, span.1) ordered (omega (arith, halves.wide)))
    ]

ordered_node : (cell node : List (ℕ × ℕ)) → IsNode cell node → AreOrdered cell → AreOrdered node
ordered_node _ _ (whole cell) ordered = ordered
ordered_node _ _ (half cell node part below is_half) ordered = ordered_half node part is_half (ordered_node cell node below ordered)

-- each of the cells that part a whole has a tuple
parts_held : (cell : Cell) (cells : List (List (ℕ × ℕ))) → AreParts (spans_of cell) cells → All HasTuple cells
parts_held cell cells parts = λ k d below.
    ordered_held (get_or cells k d) (ordered_node (spans_of cell) (get_or cells k d) (parts.nodes k d below) (spans_ordered (take cell.axes cell.spans)))

-- 1 where a test holds, and else 0
abbrev counted : Bool → ℕ
counted b = cond b 1 0

at_most_one : (b : Bool) → 2 ≤ counted b → ⊥
at_most_one true two = omega arith
at_most_one false two = omega arith

-- no tuple lies in both halves
never_both : (cell lower upper : List (ℕ × ℕ)) (tuple : List ℕ) → AreHalves cell lower upper → Holds lower tuple → Holds upper tuple → ⊥
never_both cell lower upper tuple halves low high =
    let sum = halves_parted cell lower upper tuple halves in
    let one : counted (holds lower tuple) ≡ 1 = ap counted low in
    let other : counted (holds upper tuple) ≡ 1 = ap counted high in
    at_most_one (holds cell tuple) (omega arith)

-- a cell that holds a tuple counts
mult-some : (cells : List (List (ℕ × ℕ))) (k : ℕ) (d : List (ℕ × ℕ)) (tuple : List ℕ) → k < length cells → Holds (get_or cells k d) tuple → 1 ≤ mult cells tuple
mult-some cells k d tuple below held =
    let least = get_or-le-sum_by (λ (cell : List (ℕ × ℕ)). cond (holds cell tuple) 1 0) cells k d below in
    let one : counted (holds (get_or cells k d) tuple) ≡ 1 = ap counted held in
    omega arith

not_held : (b : Bool) → (b ≡ true → ⊥) → counted b ≡ 0
not_held true out = absurd (out refl)
not_held false out = refl

-- where no cell holds a tuple, its multiplicity is 0
mult-none : (cells : List (List (ℕ × ℕ))) (tuple : List ℕ) → All (λ cell. Holds cell tuple → ⊥) cells → mult cells tuple ≡ 0
mult-none [] tuple none = refl
mult-none (cell ∷ cells) tuple none =
    let sum = sum_by-cons (λ (c : List (ℕ × ℕ)). cond (holds c tuple) 1 0) cell cells in
    let rest = mult-none cells tuple (λ k d below. none (suc k) d (omega arith)) in
    let here : counted (holds cell tuple) ≡ 0 = not_held (holds cell tuple) (none 0 cell (omega arith)) in
    omega arith

mult-cut : (cells : List (List (ℕ × ℕ))) (n : ℕ) (tuple : List ℕ) → mult (take n cells) tuple + mult (drop n cells) tuple ≡ mult cells tuple
mult-cut cells n tuple = sym (mult-append (take n cells) (drop n cells) tuple) ∙ ap (λ (l : List (List (ℕ × ℕ))). mult l tuple) (take-append-drop n cells)

plus_zero : (k : ℕ) → k ≡ k + 0
plus_zero k = omega arith

-- two cells that hold a tuple count both
mult-two : (cells : List (List (ℕ × ℕ))) (j k : ℕ) (d : List (ℕ × ℕ)) (tuple : List ℕ) → j < k → k < length cells → Holds (get_or cells j d) tuple → Holds (get_or cells k d) tuple
    → 2 ≤ mult cells tuple
mult-two cells j k d tuple before below one other =
    let front = mult-some (take k cells) j d tuple (omega (arith, length-take-le k cells (omega arith))) (subst (λ (c : List (ℕ × ℕ)). Holds c tuple) (sym (get_or-take k cells j d before)) one) in
    let back = mult-some (drop k cells) 0 d tuple (omega (arith, length-drop k cells))
    (subst (λ (c : List (ℕ × ℕ)). Holds c tuple) (ap (λ (i : ℕ). get_or cells i d) (plus_zero k) ∙ sym (get_or-drop k cells 0 d)) other) in
    omega (arith, mult-cut cells k tuple)

-- no tuple lies in two of the cells that part a whole
never_twice : (cell : List (ℕ × ℕ)) (cells : List (List (ℕ × ℕ))) (j k : ℕ) (d : List (ℕ × ℕ)) (tuple : List ℕ) → AreParts cell cells → j < k → k < length cells → Holds (get_or cells j d) tuple
    → Holds (get_or cells k d) tuple → ⊥
never_twice cell cells j k d tuple parts before below one other =
    let held : Holds cell tuple = holds_through cell (get_or cells k d) tuple (covers_node cell (get_or cells k d) (parts.nodes k d below)) other in
    let once = parts.once tuple held in
    let two = mult-two cells j k d tuple before below one other in
    absurd (omega arith)

-- where they aren't one cell, none of the cells that part a whole is the whole
none_whole : (cell : List (ℕ × ℕ)) (cells : List (List (ℕ × ℕ))) (k : ℕ) (d : List (ℕ × ℕ)) → AreParts cell cells → All HasTuple cells → length cells ≢ 1 → k < length cells → get_or cells k d ≡ cell
    → ⊥
none_whole cell cells zero d parts some more below same =
    let next : 1 < length cells = omega (arith, more) in
    let other = some 1 d next in
    let held = holds_through cell (get_or cells 1 d) other.0 (covers_node cell (get_or cells 1 d) (parts.nodes 1 d next)) other.1 in
    never_twice cell cells 0 1 d other.0 parts (omega arith) next (subst (λ (c : List (ℕ × ℕ)). Holds c other.0) (sym same) held) other.1
none_whole cell cells (suc k) d parts some more below same =
    let first : 0 < length cells = omega arith in
    let other = some 0 d first in
    let held = holds_through cell (get_or cells 0 d) other.0 (covers_node cell (get_or cells 0 d) (parts.nodes 0 d first)) other.1 in
    never_twice cell cells 0 (suc k) d other.0 parts (omega arith) below other.1 (subst (λ (c : List (ℕ × ℕ)). Holds c other.0) (sym same) held)

-- where they aren't one cell, each of the cells that part a whole lies in one of its halves
pub each_in_half : (cell lower upper : List (ℕ × ℕ)) (cells : List (List (ℕ × ℕ))) (k : ℕ) (d : List (ℕ × ℕ)) → AreParts cell cells → All HasTuple cells → length cells ≢ 1 → AreHalves cell lower upper
    → k < length cells → IsNode lower (get_or cells k d) ⊎ IsNode upper (get_or cells k d)
each_in_half cell lower upper cells k d parts some more halves below = elim (node_cases cell lower upper (get_or cells k d) halves (parts.nodes k d below)) [
  | inl same ↦ absurd (none_whole cell cells k d parts some more below same)
  | inr within ↦ within
]

held_by_node : (cell node : List (ℕ × ℕ)) (tuple : List ℕ) → IsNode cell node → Holds node tuple → Holds cell tuple
held_by_node cell node tuple is_node held = holds_through cell node tuple (covers_node cell node is_node) held

-- cells that part a whole, those in its lower half first: the ones part the lower half, and the others the upper one
pub parts_halved : (cell lower upper : List (ℕ × ℕ)) (cells : List (List (ℕ × ℕ))) (n : ℕ) → AreParts cell cells → AreHalves cell lower upper → All (IsNode lower) (take n cells)
    → All (IsNode upper) (drop n cells) → AreParts lower (take n cells) × AreParts upper (drop n cells)
parts_halved cell lower upper cells n parts halves low high = (
  record {
    nodes = low;
    once = λ tuple held.
        let one = parts.once tuple (holds_through cell lower tuple (covers_lower cell lower upper halves) held) in
        let none = mult-none (drop n cells) tuple (λ k d below other. never_both cell lower upper tuple halves held (held_by_node upper _ tuple (high k d below) other)) in
        omega (arith, mult-cut cells n tuple);
  },
  record {
    nodes = high;
    once = λ tuple held.
        let one = parts.once tuple (holds_through cell upper tuple (covers_upper cell lower upper halves) held) in
        let none = mult-none (take n cells) tuple (λ k d below other. never_both cell lower upper tuple halves (held_by_node lower _ tuple (low k d below) other) held) in
        omega (arith, mult-cut cells n tuple);
  },
)

-- the cells in front, and those behind
in_front : (cells : List (List (ℕ × ℕ))) (n k : ℕ) → k < length (take n cells) → (k < n) × (k < length cells)
in_front cells n k below = (omega (arith, length-take n cells), omega (arith, length-take n cells))

behind : (cells : List (List (ℕ × ℕ))) (n k : ℕ) → k < length (drop n cells) → n + k < length cells
behind cells n k below = omega (arith, length-drop n cells)

-- what lies in the lower half ends with it at the latest, on each axis
ends_in : (lower part : List (ℕ × ℕ)) (axis : ℕ) → axis < length lower → IsNode lower part → EndsBy axis (span_at lower axis).1 part
ends_in lower part axis inside node =
    let covers = covers_node lower part node in
    (omega (arith, length-covers lower part covers, inside), (covers_at lower part axis covers inside).1)

-- what lies in the upper half ends behind the lower one, on the axis of the cut
ends_behind : (cell lower upper part : List (ℕ × ℕ)) (axis : ℕ) → AreHalves cell lower upper → IsWidest cell axis → IsNode upper part → HasTuple part → EndsBy axis (span_at lower axis).1 part → ⊥
ends_behind cell lower upper part axis halves is_widest node some ends =
    let same : axis ≡ halves.axis = widest_unique cell axis halves.axis is_widest halves.widest in
    let span = span_at cell halves.axis in
    let middle = (span.0 + span.1) / 2 in
    let low : span_at lower halves.axis ≡ (span.0, middle) = ap (λ (c : List (ℕ × ℕ)). span_at c halves.axis) halves.lower_is ∙ get_or-set_same cell halves.axis (span.0, middle) (0, 0) halves.widest.inside in
    let high : span_at upper halves.axis ≡ (middle + 1, span.1) = ap (λ (c : List (ℕ × ℕ)). span_at c halves.axis) halves.upper_is
    ∙ get_or-set_same cell halves.axis (middle + 1, span.1) (0, 0) halves.widest.inside in
    let covers = covers_node upper part node in
    let ended : EndsBy halves.axis (span_at lower halves.axis).1 part = subst (λ (a : ℕ). EndsBy a (span_at lower a).1 part) same ends in
    let within = covers_at upper part halves.axis covers (omega (arith, length-covers upper part covers, ended.0)) in
    let held = holds_at part some.0 halves.axis some.1 ended.0 in
    omega (arith, within.0, held.0, held.1, ended.1, ap (λ (s : ℕ × ℕ). s.1) low, ap (λ (s : ℕ × ℕ). s.0) high)

-- what ends with the lower half lies in it, and what ends behind it lies in the upper half
pub parts_ended : (cell lower upper : List (ℕ × ℕ)) (cells : List (List (ℕ × ℕ))) (n axis : ℕ) → AreParts cell cells → All HasTuple cells → length cells ≢ 1 → AreHalves cell lower upper
    → IsWidest cell axis → All (EndsBy axis (span_at lower axis).1) (take n cells) → All (λ c. EndsBy axis (span_at lower axis).1 c → ⊥) (drop n cells)
    → AreParts lower (take n cells) × AreParts upper (drop n cells)
parts_ended cell lower upper cells n axis parts some more halves is_widest ended behind_it =
    parts_halved cell lower upper cells n parts halves
    (λ k d below.
    let at = in_front cells n k below in
    let same = get_or-take n cells k d at.0 in
    subst (IsNode lower) (sym same) (elim (each_in_half cell lower upper cells k d parts some more halves at.1) [
      | inl low ↦ low
      | inr high ↦ absurd (ends_behind cell lower upper (get_or cells k d) axis halves is_widest high (some k d at.1) (subst (EndsBy axis (span_at lower axis).1) same (ended k d below)))
    ]))
    (λ k d below.
    let same = get_or-drop n cells k d in
    let inside : axis < length lower = omega (arith, is_widest.inside, ap length halves.lower_is, length-set {A = ℕ × ℕ}) in
    subst (IsNode upper) (sym same) (elim (each_in_half cell lower upper cells (n + k) d parts some more halves (behind cells n k below)) [
      | inl low ↦ absurd (behind_it k d below (subst (EndsBy axis (span_at lower axis).1) (sym same) (ends_in lower _ axis inside low)))
      | inr high ↦ high
    ]))

-- where the first cells are a frontier of the lower half, the others part the upper one
pub parts_passed : (cell lower upper : List (ℕ × ℕ)) (cells : List (List (ℕ × ℕ))) (n : ℕ) → AreParts cell cells → All HasTuple cells → length cells ≢ 1 → AreHalves cell lower upper
    → IsFrontier lower (take n cells) → AreParts upper (drop n cells)
parts_passed cell lower upper cells n parts some more halves frontier =
    (parts_halved cell lower upper cells n parts halves
    (λ k d below. subst (IsNode lower) (get_or_default (take n cells) k [] d below) (member_node lower (take n cells) k frontier below))
    (λ k d below.
    let same = get_or-drop n cells k d in
    let at = behind cells n k below in
    subst (IsNode upper) (sym same) (elim (each_in_half cell lower upper cells (n + k) d parts some more halves at) [
      | inl low ↦
          let other = some (n + k) d at in
          let held = held_by_node lower _ other.0 low other.1 in
          let once = parts.once other.0 (holds_through cell lower other.0 (covers_lower cell lower upper halves) held) in
          let front = mult-held lower (take n cells) other.0 frontier held in
          let back = mult-some (drop n cells) k d other.0 below (subst (λ (c : List (ℕ × ℕ)). Holds c other.0) (sym same) other.1) in
          absurd (omega (arith, mult-cut cells n other.0))
      | inr high ↦ high
    ]))).1

-- a cell of a single tuple is parted by itself alone
pub parts-single : (cell : List (ℕ × ℕ)) (cells : List (List (ℕ × ℕ))) → AreParts cell cells → IsSingle cell → HasTuple cell → IsFrontier cell cells
parts-single cell [] parts single some =
    let once : mult [] some.0 ≡ 1 = parts.once some.0 some.1 in
    absurd (omega (arith, once))
parts-single cell (one ∷ []) parts single some =
    let same : one ≡ cell = node-single cell one single (parts.nodes 0 one (omega arith)) in
    alone cell (one ∷ []) (ap (λ (c : List (ℕ × ℕ)). c ∷ []) same)
parts-single cell (one ∷ (other ∷ cells)) parts single some =
    let same : one ≡ cell = node-single cell one single (parts.nodes 0 one (omega arith)) in
    let too : other ≡ cell = node-single cell other single (parts.nodes 1 one (omega arith)) in
    absurd (never_twice cell (one ∷ (other ∷ cells)) 0 1 one some.0 parts (omega arith) (omega arith) (subst (λ (c : List (ℕ × ℕ)). Holds c some.0) (sym same) some.1)
    (subst (λ (c : List (ℕ × ℕ)). Holds c some.0) (sym too) some.1))

-- the other half of a node has a tuple, which doesn't lie in the half
other_half : (cell node part : List (ℕ × ℕ)) → AreOrdered cell → IsNode cell node → IsHalf node part → (tuple : List ℕ) × (Holds cell tuple × (Holds part tuple → ⊥))
other_half cell node part ordered below is_half =
    let halves = is_half.halves in
    let half_ordered = λ (other : List (ℕ × ℕ)) (either : (other ≡ is_half.lower) ⊎ (other ≡ is_half.upper)).
    ordered_half node other (record { lower = is_half.lower; upper = is_half.upper; halves = halves; either = either }) (ordered_node cell node below ordered) in
    elim is_half.either [
      | inl low ↦
          let some = ordered_held is_half.upper (half_ordered is_half.upper (inr refl)) in (
            some.0,
            (
              held_by_node cell node some.0 below (holds_through node is_half.upper some.0 (covers_upper node is_half.lower is_half.upper halves) some.1),
              λ held. never_both node is_half.lower is_half.upper some.0 halves (subst (λ (c : List (ℕ × ℕ)). Holds c some.0) low held) some.1,
            ),
          )
      | inr high ↦
          let some = ordered_held is_half.lower (half_ordered is_half.lower (inl refl)) in (
            some.0,
            (
              held_by_node cell node some.0 below (holds_through node is_half.lower some.0 (covers_lower node is_half.lower is_half.upper halves) some.1),
              λ held. never_both node is_half.lower is_half.upper some.0 halves some.1 (subst (λ (c : List (ℕ × ℕ)). Holds c some.0) high held),
            ),
          )
    ]

-- a node that holds all tuples of a cell is the cell
node-all : (cell node : List (ℕ × ℕ)) → AreOrdered cell → ((tuple : List ℕ) → Holds cell tuple → Holds node tuple) → IsNode cell node → node ≡ cell
node-all _ _ ordered held_all (whole cell) = refl
node-all _ _ ordered held_all (half cell node part below is_half) =
    let other = other_half cell node part ordered below is_half in
    absurd (other.1.1 (held_all other.0 other.1.0))

counted_once : (b : Bool) → counted b ≡ 1 → b ≡ true
counted_once true once = refl
counted_once false once = absurd (omega (arith, once))

-- a single part is the whole
pub parts-one : (cell : List (ℕ × ℕ)) (cells : List (List (ℕ × ℕ))) → AreOrdered cell → AreParts cell cells → length cells ≡ 1 → IsFrontier cell cells
parts-one cell [] ordered parts one = absurd (omega (arith, one))
parts-one cell (part ∷ []) ordered parts one =
    let held_all = λ (tuple : List ℕ) (held : Holds cell tuple).
    let sum = sum_by-cons (λ (c : List (ℕ × ℕ)). cond (holds c tuple) 1 0) part [] in
    let once = parts.once tuple held in
    counted_once (holds part tuple) (omega (arith, sum, once)) in
    alone cell (part ∷ []) (ap (λ (c : List (ℕ × ℕ)). c ∷ []) (node-all cell part ordered held_all (parts.nodes 0 part (omega arith))))
parts-one cell (part ∷ (other ∷ cells)) ordered parts one = absurd (omega (arith, one))

-- of some boxes those at the front have P, and those at the back have none of it
pub record PartedAt {B : Type 0} (P : B → Type 0) (boxes : List B) (front back : ℕ) : Type 0 where
  pub lower : (k : ℕ) (d : B) → k < front → P (get_or boxes k d)
  pub upper : (k : ℕ) (d : B) → back ≤ k → k < length boxes → P (get_or boxes k d) → ⊥

-- more of them at the front have P, and more at the back have none of it
pub parted_narrow : {B : Type 0} (P : B → Type 0) (boxes : List B) (front back start end : ℕ) → PartedAt P boxes front back → EachBetween P boxes front start
    → EachBetween (λ box. P box → ⊥) boxes end back → PartedAt P boxes start end
parted_narrow P boxes front back start end parted_ passed missed = record {
  lower = λ k d below. elim (cases_lt k front) [
    | inl before ↦ parted_.lower k d before
    | inr from ↦ passed k d from below
  ];
  upper = λ k d from inside. elim (cases_lt k back) [
    | inl before ↦ missed k d from before
    | inr behind ↦ parted_.upper k d behind inside
  ];
}

-- a box without P isn't one that has it
pub wrong_right : {B : Type 0} (P : B → Type 0) (boxes : List B) (front last : ℕ) → last < length boxes → ((d : B) → P (get_or boxes front d) → ⊥) → ((d : B) → P (get_or boxes last d)) → front ≢ last
wrong_right P [] front last inside wrong right same = absurd (omega (arith, inside))
wrong_right P (box ∷ boxes) front last inside wrong right same = wrong box (subst (λ (k : ℕ). P (get_or (box ∷ boxes) k box)) (sym same) (right box))

-- a box without P changes places with one that has it
pub parted_swap : {B : Type 0} (P : B → Type 0) (boxes after : List B) (front last : ℕ) → SwappedAt boxes after front last → length after ≡ length boxes → front < last
    → ((d : B) → P (get_or boxes front d) → ⊥) → ((d : B) → P (get_or boxes last d)) → PartedAt P boxes front (last + 1) → PartedAt P after (front + 1) last
parted_swap P boxes after front last swapped long order wrong right parted_ = record {
  lower = λ k d below. elim (cases_order k front) [
    | inl same ↦ subst (λ (j : ℕ). P (get_or after j d)) (sym same) (subst P (sym (swapped.0 d)) (right d))
    | inr other ↦ elim other [
      | inl before ↦
          let not_front : k ≢ front = omega arith in
          let not_last : k ≢ last = omega arith in
          subst P (sym (swapped.2 k d not_front not_last)) (parted_.lower k d before)
      | inr behind ↦ absurd (omega arith)
    ]
  ];
  upper = λ k d from inside has. elim (cases_order k last) [
    | inl same ↦ wrong d (subst P (swapped.1 d) (subst (λ (j : ℕ). P (get_or after j d)) same has))
    | inr other ↦ elim other [
      | inl before ↦ absurd (omega arith)
      | inr behind ↦
          let not_front : k ≢ front = omega arith in
          let not_last : k ≢ last = omega arith in
          parted_.upper k d (omega arith) (omega arith) (subst P (swapped.2 k d not_front not_last) has)
    ]
  ];
}

-- boxes that part a whole do so in any order
pub parts-permutation : {B : Type 0} (cell : B → List (ℕ × ℕ)) (all : List (ℕ × ℕ)) (boxes after : List B) → IsPermutation boxes after → AreParts all (map cell boxes) → AreParts all (map cell after)
parts-permutation cell all boxes after same parts =
    let mapped = IsPermutation-map cell boxes after same in
    record {
      nodes = All-permutation (IsNode all) (map cell boxes) (map cell after) mapped parts.nodes;
      once = λ tuple held. sum_by-IsPermutation (λ (c : List (ℕ × ℕ)). counted (holds c tuple)) (map cell boxes) (map cell after) mapped ∙ parts.once tuple held;
    }

-- a frontier parts its cell
pub frontier_parts : (cell : List (ℕ × ℕ)) (cells : List (List (ℕ × ℕ))) → IsFrontier cell cells → AreParts cell cells
frontier_parts cell cells frontier = record {
  nodes = λ k d below. subst (IsNode cell) (get_or_default cells k [] d below) (member_node cell cells k frontier below);
  once = λ tuple held. mult-held cell cells tuple frontier held;
}

-- what holds of boxes, each of which stands for a cell
module _ {B : Type 0} (of : B → List (ℕ × ℕ)) where
  length-cells : (boxes : List B) → length boxes ≢ 1 → length (map of boxes) ≢ 1
  length-cells boxes more one = more (sym (length-map boxes of) ∙ one)

  -- boxes that part a cell have its axes
  pub boxes_axis : (cell : List (ℕ × ℕ)) (boxes : List B) (axis : ℕ) → AreParts cell (map of boxes) → axis < length cell → All (λ box. axis < length (of box)) boxes
  boxes_axis cell boxes axis parts inside = λ k d below.
      let same : get_or (map of boxes) k (of d) ≡ of (get_or boxes k d) = get_or-map of boxes k d (of d) below in
      let node = subst (IsNode cell) same (parts.nodes k (of d) (omega (arith, below, length-map boxes of))) in
      omega (arith, inside, length-covers cell (of (get_or boxes k d)) (covers_node cell (of (get_or boxes k d)) node))

  -- where the first boxes are a frontier of the lower half, the others part the upper one
  pub boxes_passed : (cell lower upper : Cell) (boxes back : List B) (count : ℕ) → AreParts (spans_of cell) (map of boxes) → length boxes ≢ 1
      → AreHalves (spans_of cell) (spans_of lower) (spans_of upper) → IsFrontier (spans_of lower) (take count (map of boxes)) → back ≡ drop count boxes → AreParts (spans_of upper) (map of back)
  boxes_passed cell lower upper boxes back count parts more halves frontier is =
      let rest = parts_passed (spans_of cell) (spans_of lower) (spans_of upper) (map of boxes) count parts (parts_held cell (map of boxes) parts) (length-cells boxes more) halves frontier in
      subst (AreParts (spans_of upper)) (drop-map of count boxes ∙ ap (map of) (sym is)) rest

  -- boxes of which those that end with the lower half come first
  pub boxes_ended : (cell lower upper : Cell) (boxes after front back : List B) (count axis last : ℕ) → AreParts (spans_of cell) (map of boxes) → length boxes ≢ 1
      → AreHalves (spans_of cell) (spans_of lower) (spans_of upper) → IsWidest (spans_of cell) axis → last ≡ (span_at (spans_of lower) axis).1 → IsPermutation boxes after
      → All (λ box. EndsBy axis last (of box)) (take count after) → All (λ box. EndsBy axis last (of box) → ⊥) (drop count after) → front ≡ take count after → back ≡ drop count after
      → AreParts (spans_of lower) (map of front) × AreParts (spans_of upper) (map of back)
  boxes_ended cell lower upper boxes after front back count axis last parts more halves is_widest at same ended behind_it front_is back_is =
      let end = (span_at (spans_of lower) axis).1 in
      let long : length after ≢ 1 = λ one. more (sym (length_permutation boxes after same) ∙ one) in
      let low = subst (λ (e : ℕ). All (EndsBy axis e) (take count (map of after))) at
      (subst (All (EndsBy axis last)) (sym (take-map of count after)) (All-map (EndsBy axis last) of (take count after) ended)) in
      let high = subst (λ (e : ℕ). All (λ (c : List (ℕ × ℕ)). EndsBy axis e c → ⊥) (drop count (map of after))) at
      (subst (All (λ (c : List (ℕ × ℕ)). EndsBy axis last c → ⊥)) (sym (drop-map of count after)) (All-map (λ (c : List (ℕ × ℕ)). EndsBy axis last c → ⊥) of (drop count after) behind_it)) in
      let moved = parts-permutation of (spans_of cell) boxes after same parts in
      let both = parts_ended (spans_of cell) (spans_of lower) (spans_of upper) (map of after) count axis moved (parts_held cell (map of after) moved)
      (length-cells after long) halves is_widest low high in (
        subst (AreParts (spans_of lower)) (take-map of count after ∙ ap (map of) (sym front_is)) both.0,
        subst (AreParts (spans_of upper)) (drop-map of count after ∙ ap (map of) (sym back_is)) both.1,
      )

  -- frontiers of both halves, one behind the other
  pub boxes_joined : (cell lower upper : Cell) (front back : List B) → AreHalves (spans_of cell) (spans_of lower) (spans_of upper) → IsFrontier (spans_of lower) (map of front)
      → IsFrontier (spans_of upper) (map of back) → IsFrontier (spans_of cell) (map of (front ++ back))
  boxes_joined cell lower upper front back halves low high = parted (spans_of cell) (spans_of lower) (spans_of upper) (map of front) (map of back) (map of (front ++ back)) halves low high
      (map-append of front back)

  pub boxes_single : (cell : Cell) (boxes : List B) → AreParts (spans_of cell) (map of boxes) → IsSingle (spans_of cell) → IsFrontier (spans_of cell) (map of boxes)
  boxes_single cell boxes parts single = parts-single (spans_of cell) (map of boxes) parts single (cell_held cell)

  pub boxes_one : (cell : Cell) (boxes : List B) → AreParts (spans_of cell) (map of boxes) → length boxes ≡ 1 → IsFrontier (spans_of cell) (map of boxes)
  boxes_one cell boxes parts one = parts-one (spans_of cell) (map of boxes) (spans_ordered (take cell.axes cell.spans)) parts (length-map boxes of ∙ one)
