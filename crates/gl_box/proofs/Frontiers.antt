-- A walk along the split tree against frontiers: what may still come is made of frontiers of the open cells.
use Rattle.std.proofs.Common.{◌≡◌, ◌∙◌, sym, ap, refl, subst, ℕ, ◌+◌, ◌/◌, ◌<◌, ◌≤◌, ◌⊎◌, inl, inr, List, [], ◌∷◌, ◌++◌, length, get_or, take, drop, map, reverse, slice_set, append_assoc, arith}
use Rattle.std.specs.Prelude.{◌↔◌}
use Rattle.std.proofs.lemmas.Bool.{cases_order}
use Rattle.std.proofs.lemmas.List.{append-nil, get_or_at, length-append, length-drop, map-append, reverse-append, take-append-drop}
use Rattle.gl_box.specs.declared.cell.Cell.{Cell}
use Rattle.gl_box.specs.Cell.{Covers, spans_of}
use Rattle.gl_box.specs.Halves.{AreHalves, IsWidest, span_at}
use Rattle.gl_box.specs.Frontier.{IsFrontier, IsNode}
use Rattle.gl_box.specs.Frontier.IsFrontier.{alone, parted}
use Rattle.gl_box.proofs.Nodes.{covers_node, member_node, spread, spread-lower}
use Rattle.gl_box.specs.Boxes.{Begins}
use Rattle.gl_box.specs.Walk.{AreFrontiers, IsWalked, open_cells}

-- two cells that cover each other are one
pub covers_both : (a b : List (ℕ × ℕ)) → Covers a b → Covers b a → a ≡ b
covers_both [] [] ab ba = refl
covers_both [] (y ∷ ys) ab ba = absurd ab
covers_both (x ∷ xs) [] ab ba = absurd ab
covers_both (x ∷ xs) (y ∷ ys) ab ba =
    let low : x.0 ≡ y.0 = omega (arith, ab.0, ba.0) in
    let high : x.1 ≡ y.1 = omega (arith, ab.1, ba.1) in
    let first : x ≡ y = λ i. (low i, high i) in
    let rest = covers_both xs ys ab.2 ba.2 in
    λ i. first i ∷ rest i

-- a cell has one widest axis, and so one pair of halves
pub widest_unique : (cell : List (ℕ × ℕ)) (a b : ℕ) → IsWidest cell a → IsWidest cell b → a ≡ b
widest_unique cell a b is_a is_b = elim (cases_order a b) [
  | inl same ↦ same
  | inr other ↦ elim other [
    | inl before ↦ absurd (omega (arith, is_b.lowest a before, is_a.widest b))
    | inr after ↦ absurd (omega (arith, is_a.lowest b after, is_b.widest a))
  ]
]

lower_of : List (ℕ × ℕ) → ℕ → List (ℕ × ℕ)
lower_of cell axis = slice_set cell axis ((span_at cell axis).0, ((span_at cell axis).0 + (span_at cell axis).1) / 2)

upper_of : List (ℕ × ℕ) → ℕ → List (ℕ × ℕ)
upper_of cell axis = slice_set cell axis (((span_at cell axis).0 + (span_at cell axis).1) / 2 + 1, (span_at cell axis).1)

pub lower_unique : (cell lower upper other another : List (ℕ × ℕ)) → AreHalves cell lower upper → AreHalves cell other another → lower ≡ other
unfolding lower_of
lower_unique cell lower upper other another halves others =
    halves.lower_is ∙ ap (lower_of cell) (widest_unique cell halves.axis others.axis halves.widest others.widest) ∙ sym others.lower_is

pub upper_unique : (cell lower upper other another : List (ℕ × ℕ)) → AreHalves cell lower upper → AreHalves cell other another → upper ≡ another
unfolding upper_of
upper_unique cell lower upper other another halves others =
    halves.upper_is ∙ ap (upper_of cell) (widest_unique cell halves.axis others.axis halves.widest others.widest) ∙ sym others.upper_is

-- a frontier has a first cell
pub frontier_some : (cell : List (ℕ × ℕ)) (cells : List (List (ℕ × ℕ))) → IsFrontier cell cells → (first : List (ℕ × ℕ)) × (rest : List (List (ℕ × ℕ))) × (cells ≡ first ∷ rest)
frontier_some _ _ (alone cell cells is) = (cell, [], is)
frontier_some _ _ (parted cell lower upper front back cells halves low high is) =
    let some = frontier_some lower front low in
    (some.0, some.1 ++ back, is ∙ ap (λ (l : List (List (ℕ × ℕ))). l ++ back) some.2)

-- the first cell of a frontier is the whole, which is then alone, or it reaches less far
pub frontier_first : (cell first : List (ℕ × ℕ)) (cells rest : List (List (ℕ × ℕ))) → IsFrontier cell cells → cells ≡ first ∷ rest → ((first ≡ cell) × (rest ≡ [])) ⊎ (spread first < spread cell)
frontier_first _ first _ rest (alone cell cells is) at =
    let both : first ∷ rest ≡ cell ∷ [] = sym at ∙ is in
    let same : first ≡ cell = cc in
    let none : rest ≡ [] = cc in
    inl (same, none)
frontier_first _ first _ rest (parted cell lower upper front back cells halves low high is) at =
    let some = frontier_some lower front low in
    let both : some.0 ∷ (some.1 ++ back) ≡ first ∷ rest = sym (is ∙ ap (λ (l : List (List (ℕ × ℕ))). l ++ back) some.2) ∙ at in
    let same : some.0 ≡ first = cc in
    let less = spread-lower cell lower upper halves in
    elim (frontier_first lower some.0 front some.1 low some.2) [
      | inl whole ↦ inr (omega (arith, less, ap spread (sym same ∙ whole.0)))
      | inr lesser ↦ inr (omega (arith, less, lesser, ap spread same))
    ]

-- the first cell of a frontier of the lower half isn't the cell
pub lower_first : (cell lower upper first : List (ℕ × ℕ)) (cells rest : List (List (ℕ × ℕ))) → AreHalves cell lower upper → IsFrontier lower cells → cells ≡ first ∷ rest → cell ≡ first → ⊥
lower_first cell lower upper first cells rest halves low at same =
    let less = spread-lower cell lower upper halves in
    elim (frontier_first lower first cells rest low at) [
      | inl whole ↦ absurd (omega (arith, less, ap spread (same ∙ whole.0)))
      | inr lesser ↦ absurd (omega (arith, less, lesser, ap spread same))
    ]

-- a frontier that doesn't begin with its cell is parted by the cell's halves
pub record Parted (lower upper : List (ℕ × ℕ)) (cells : List (List (ℕ × ℕ))) : Type 0 where
  pub front : List (List (ℕ × ℕ))
  pub back : List (List (ℕ × ℕ))
  pub low : IsFrontier lower front
  pub high : IsFrontier upper back
  pub is : cells ≡ front ++ back

pub frontier_parted : (cell lower upper first : List (ℕ × ℕ)) (cells rest : List (List (ℕ × ℕ))) → IsFrontier cell cells → cells ≡ first ∷ rest → AreHalves cell lower upper → (cell ≡ first → ⊥)
    → Parted lower upper cells
frontier_parted _ lower upper first _ rest (alone cell cells is) at halves other =
    let both : first ∷ rest ≡ cell ∷ [] = sym at ∙ is in
    let same : cell ≡ first = cc in
    absurd (other same)
frontier_parted _ lower upper first _ rest (parted cell l u front back cells own low high is) at halves other = record {
  front = front;
  back = back;
  low = subst (λ (c : List (ℕ × ℕ)). IsFrontier c front) (lower_unique cell l u lower upper own halves) low;
  high = subst (λ (c : List (ℕ × ℕ)). IsFrontier c back) (upper_unique cell l u lower upper own halves) high;
  is = is;
}

-- what begins frontiers of open cells begins that of the first one
pub record FrontOf (opened first : List (ℕ × ℕ)) (others more : List (List (ℕ × ℕ))) : Type 0 where
  pub rest : List (List (ℕ × ℕ))
  pub back : List (List (ℕ × ℕ))
  pub frontier : IsFrontier opened (first ∷ rest)
  pub behind : AreFrontiers others back
  pub is : more ≡ rest ++ back

pub front_of : (opened first : List (ℕ × ℕ)) (others more : List (List (ℕ × ℕ))) → AreFrontiers (opened ∷ others) (first ∷ more) → FrontOf opened first others more
front_of opened first others more fronts =
    let some = frontier_some opened fronts.0 fronts.2 in
    let both : first ∷ more ≡ some.0 ∷ (some.1 ++ fronts.1) = fronts.4 ∙ ap (λ (l : List (List (ℕ × ℕ))). l ++ fronts.1) some.2 in
    let same : some.0 ≡ first = cc in
    let rest : more ≡ some.1 ++ fronts.1 = cc in
    record {
      rest = some.1;
      back = fronts.1;
      frontier = subst (IsFrontier opened) (some.2 ∙ ap (λ (c : List (ℕ × ℕ)). c ∷ some.1) same) fronts.2;
      behind = fronts.3;
      is = rest;
    }

-- the first open cell is passed
pub passed_on : (cell : List (ℕ × ℕ)) (others more : List (List (ℕ × ℕ))) → AreFrontiers (cell ∷ others) (cell ∷ more) ↔ AreFrontiers others more
passed_on cell others more = (
  λ fronts.
      let at = front_of cell cell others more fronts in
      elim (frontier_first cell cell (cell ∷ at.rest) at.rest at.frontier refl) [
        | inl whole ↦ subst (AreFrontiers others) (sym (at.is ∙ ap (λ (l : List (List (ℕ × ℕ))). l ++ at.back) whole.1)) at.behind
        | inr less ↦ absurd (omega arith)
      ],
  λ fronts. (cell ∷ [], more, alone cell (cell ∷ []) refl, fronts, refl),
)

-- an open cell that isn't the next one gives way to its halves
pub halved_on : (cell lower upper next : List (ℕ × ℕ)) (others more : List (List (ℕ × ℕ))) → AreHalves cell lower upper → (cell ≡ next → ⊥)
    → AreFrontiers (cell ∷ others) (next ∷ more) ↔ AreFrontiers (lower ∷ upper ∷ others) (next ∷ more)
halved_on cell lower upper next others more halves other = (
  λ fronts.
      let at = front_of cell next others more fronts in
      let parts = frontier_parted cell lower upper next (next ∷ at.rest) at.rest at.frontier refl halves other in
      let whole : next ∷ more ≡ (parts.front ++ parts.back) ++ at.back = ap (λ (l : List (List (ℕ × ℕ))). next ∷ l) at.is ∙ ap (λ (l : List (List (ℕ × ℕ))). l ++ at.back) parts.is in
      (parts.front, parts.back ++ at.back, parts.low, (parts.back, at.back, parts.high, at.behind, refl), whole ∙ append_assoc parts.front parts.back at.back),
  λ fronts. (
    fronts.0 ++ fronts.3.0,
    fronts.3.1,
    parted cell lower upper fronts.0 fronts.3.0 (fronts.0 ++ fronts.3.0) halves fronts.2 fronts.3.2 refl,
    fronts.3.3,
    fronts.4 ∙ ap (λ (l : List (List (ℕ × ℕ))). fronts.0 ++ l) fronts.3.4 ∙ sym (append_assoc fronts.0 fronts.3.0 fronts.3.1),
  ),
)

-- the next cell lies in the first open one
pub first_covered : (cell next : List (ℕ × ℕ)) (others more : List (List (ℕ × ℕ))) → AreFrontiers (cell ∷ others) (next ∷ more) → Covers cell next
first_covered cell next others more fronts =
    let at = front_of cell next others more fronts in
    covers_node cell next (member_node cell (next ∷ at.rest) 0 at.frontier (omega arith))

-- open cells are frontiers of themselves
pub frontiers_self : (opened : List (List (ℕ × ℕ))) → AreFrontiers opened opened
frontiers_self [] = refl
frontiers_self (first ∷ others) = (first ∷ [], others, alone first (first ∷ []) refl, frontiers_self others, refl)

-- where nothing more comes, no cell is open
pub frontiers_none : (opened : List (List (ℕ × ℕ))) → AreFrontiers opened [] → opened ≡ []
frontiers_none [] fronts = refl
frontiers_none (first ∷ others) fronts =
    let some = frontier_some first fronts.0 fronts.2 in
    let both : [] ≡ some.0 ∷ (some.1 ++ fronts.1) = fronts.4 ∙ ap (λ (l : List (List (ℕ × ℕ))). l ++ fronts.1) some.2 in
    absurd (cc)

pub open_cells-append : (cells others : List Cell) → open_cells (cells ++ others) ≡ open_cells others ++ open_cells cells
open_cells-append cells others = ap reverse (map-append spans_of cells others) ∙ reverse-append (map spans_of cells) (map spans_of others)

pub open_push : (cells : List Cell) (cell : Cell) → open_cells (cells ++ cell ∷ []) ≡ spans_of cell ∷ open_cells cells
open_push cells cell = open_cells-append cells (cell ∷ [])

pub walked_start : (whole : List (ℕ × ℕ)) → IsWalked whole [] (whole ∷ [])
walked_start whole more = (
  λ frontier. (more, [], frontier, refl, sym (append-nil more)),
  λ fronts. subst (IsFrontier whole) (sym (fronts.4 ∙ ap (λ (l : List (List (ℕ × ℕ))). fronts.0 ++ l) fronts.3 ∙ append-nil fronts.0)) fronts.2,
)

-- one more cell is passed
pub walked_on : (whole cell : List (ℕ × ℕ)) (passed opened after : List (List (ℕ × ℕ))) → IsWalked whole passed opened
    → ((more : List (List (ℕ × ℕ))) → AreFrontiers opened (cell ∷ more) ↔ AreFrontiers after more) → IsWalked whole (passed ++ cell ∷ []) after
walked_on whole cell passed opened after walked step more =
    let regroup = append_assoc passed (cell ∷ []) more in (
      λ frontier. (step more).0 ((walked (cell ∷ more)).0 (subst (IsFrontier whole) regroup frontier)),
      λ fronts. subst (IsFrontier whole) (sym regroup) ((walked (cell ∷ more)).1 ((step more).1 fronts)),
    )

pub walked_begins : (whole : List (ℕ × ℕ)) (passed opened : List (List (ℕ × ℕ))) → IsWalked whole passed opened → Begins whole passed
walked_begins whole passed opened walked = (opened, (walked opened).1 (frontiers_self opened))

pub walked_whole : (whole : List (ℕ × ℕ)) (passed opened : List (List (ℕ × ℕ))) → IsWalked whole passed opened → opened ≡ [] → IsFrontier whole passed
walked_whole whole passed opened walked none =
    subst (IsFrontier whole) (append-nil passed) ((walked []).1 (subst (λ (l : List (List (ℕ × ℕ))). AreFrontiers l []) (sym none) refl))

pub walked_open : (whole : List (ℕ × ℕ)) (passed opened : List (List (ℕ × ℕ))) → IsWalked whole passed opened → (opened ≡ [] → ⊥) → IsFrontier whole passed → ⊥
walked_open whole passed opened walked some frontier =
    some (frontiers_none opened ((walked []).0 (subst (IsFrontier whole) (sym (append-nil passed)) frontier)))

pub walked_out : (whole cell : List (ℕ × ℕ)) (passed opened : List (List (ℕ × ℕ))) → IsWalked whole passed opened → ((more : List (List (ℕ × ℕ))) → AreFrontiers opened (cell ∷ more) → ⊥)
    → Begins whole (passed ++ cell ∷ []) → ⊥
walked_out whole cell passed opened walked out begins =
    out begins.0 ((walked (cell ∷ begins.0)).0 (subst (IsFrontier whole) (append_assoc passed (cell ∷ []) begins.0) begins.1))

-- one fact exactly where another holds, and that exactly where a third does
pub through : {A B C : Type 0} → A ↔ B → B ↔ C → A ↔ C
through f g = (λ a. g.0 (f.0 a), λ c. f.1 (g.1 c))

-- no frontier begins another one
pub frontier_unique : (cell : List (ℕ × ℕ)) (a b r q : List (List (ℕ × ℕ))) → IsFrontier cell a → IsFrontier cell b → a ++ r ≡ b ++ q → (a ≡ b) × (r ≡ q)
frontier_unique _ _ b r q (alone cell a is) other same =
    let some = frontier_some cell b other in
    let both : cell ∷ r ≡ some.0 ∷ (some.1 ++ q) = sym (ap (λ (l : List (List (ℕ × ℕ))). l ++ r) is) ∙ same ∙ ap (λ (l : List (List (ℕ × ℕ))). l ++ q) some.2 in
    let first : cell ≡ some.0 = cc in
    let rest : r ≡ some.1 ++ q = cc in
    elim (frontier_first cell some.0 b some.1 other some.2) [
      | inl whole ↦
          let one : a ≡ b = is ∙ ap (λ (c : List (ℕ × ℕ)). c ∷ []) first ∙ ap (λ (l : List (List (ℕ × ℕ))). some.0 ∷ l) (sym whole.1) ∙ sym some.2 in
          (one, rest ∙ ap (λ (l : List (List (ℕ × ℕ))). l ++ q) whole.1)
      | inr less ↦ absurd (omega (arith, less, ap spread first))
    ]
frontier_unique _ _ b r q (parted cell lower upper front back a halves low high is) other same =
    let mine = frontier_some lower front low in
    let some = frontier_some cell b other in
    let both : mine.0 ∷ (mine.1 ++ (back ++ r)) ≡ some.0 ∷ (some.1 ++ q) =
    sym (ap (λ (l : List (List (ℕ × ℕ))). l ++ (back ++ r)) mine.2) ∙ sym (append_assoc front back r) ∙ sym (ap (λ (l : List (List (ℕ × ℕ))). l ++ r) is) ∙ same
    ∙ ap (λ (l : List (List (ℕ × ℕ))). l ++ q) some.2 in
    let first : mine.0 ≡ some.0 = cc in
    let apart : cell ≡ some.0 → ⊥ = λ at. lower_first cell lower upper mine.0 front mine.1 halves low mine.2 (at ∙ sym first) in
    let parts = frontier_parted cell lower upper some.0 b some.1 other some.2 halves apart in
    let split : front ++ (back ++ r) ≡ parts.front ++ (parts.back ++ q) =
    sym (append_assoc front back r) ∙ sym (ap (λ (l : List (List (ℕ × ℕ))). l ++ r) is) ∙ same ∙ ap (λ (l : List (List (ℕ × ℕ))). l ++ q) parts.is ∙ append_assoc parts.front parts.back q in
    let lows = frontier_unique lower front parts.front (back ++ r) (parts.back ++ q) low parts.low split in
    let highs = frontier_unique upper back parts.back r q high parts.high lows.1 in
    (is ∙ ap (λ (l : List (List (ℕ × ℕ))). l ++ back) lows.0 ∙ ap (λ (l : List (List (ℕ × ℕ))). parts.front ++ l) highs.0 ∙ sym parts.is, highs.1)

-- a frontier goes no further than another one
pub frontier_ends : (cell : List (ℕ × ℕ)) (cells : List (List (ℕ × ℕ))) (k : ℕ) → IsFrontier cell (take k cells) → IsFrontier cell cells → length cells ≤ k
frontier_ends cell cells k front whole =
    let same : take k cells ++ drop k cells ≡ cells ++ [] = take-append-drop k cells ∙ sym (append-nil cells) in
    let rest : drop k cells ≡ [] = (frontier_unique cell (take k cells) cells (drop k cells) [] front whole same).1 in
    let none : length (drop k cells) ≡ 0 = ap length rest in
    omega (arith, none, length-drop k cells)

-- a cell with which cells begin a partition of a whole lies in the whole
pub covers_begun : (whole cell : List (ℕ × ℕ)) (passed : List (List (ℕ × ℕ))) → Begins whole (passed ++ cell ∷ []) → Covers whole cell
covers_begun whole cell passed begins =
    let cells = (passed ++ cell ∷ []) ++ begins.0 in
    let regroup : cells ≡ passed ++ cell ∷ begins.0 = append_assoc passed (cell ∷ []) begins.0 in
    let read : get_or cells (length passed) [] ≡ cell = ap (λ (l : List (List (ℕ × ℕ))). get_or l (length passed) []) regroup ∙ get_or_at passed cell begins.0 [] (length passed) refl in
    let inside : length passed < length cells = omega (arith, ap length regroup, length-append passed (cell ∷ begins.0)) in
    covers_node whole cell (subst (IsNode whole) read (member_node whole cells (length passed) begins.1 inside))
