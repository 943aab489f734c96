-- What the calls of several workers took, put and closed together: where all that was put was taken, no cell is strange, and the closed cells part the whole one.
use Rattle.std.proofs.Common.{◌≡◌, ◌∙◌, sym, ap, refl, subst, ℕ, zero, suc, ◌-◌, ◌<◌, ◌≤◌, Bool, true, false, cond, ◌⊎◌, inl, inr, List, [], ◌∷◌, ◌++◌, length, get_or, map, Option, None, arith}
use Rattle.std.specs.Prelude.{All, Contains}
use Rattle.std.specs.List.{sum_by}
use Rattle.std.proofs.Math.Nat.{eq-zero-or-pos}
use Rattle.std.proofs.lemmas.List.Elements.{All-append, All-map, Contains-append_left, Contains-append_right}
use Rattle.std.proofs.lemmas.List.Sums.{get_or-le-sum_by, sum_by-cons}
use Rattle.gl_box.specs.declared.cell.Cell.{Cell}
use Rattle.gl_box.specs.declared.closed.Why.{Why}
use Rattle.gl_box.specs.Cell.{Covers, holds, spans_of}
use Rattle.gl_box.specs.Halves.{IsHalf}
use Rattle.gl_box.specs.Frontier.{IsNode}
use Rattle.gl_box.specs.Frontier.IsNode.{whole, half}
use Rattle.gl_box.proofs.Nodes.{covers_node, node_through, spread, spread-lower, spread-upper}
use Rattle.gl_deal.specs.Code.Copies.{is_same}
use Rattle.gl_deal.proofs.Balance.{is-same, same-is}
use Rattle.gl_goal.specs.Goal.{Goal, whole_cell}
use Rattle.gl_plain.specs.Search.{IsNeeded}
use Rattle.gl_order.specs.Order.{AreParts, cells_of}
use Rattle.gl_pool.specs.Code.Many.{CameToAll, WeighSame}
use Rattle.gl_pool.specs.Parts.{ArePartedInto, IsFromTaken, IsPartOfTaken, IsStrange, times_held}
use Rattle.gl_pool.proofs.Parting.{PartIn, closed_more, put_more, stranger, times_closed-append, times_held-append}

-- whatever had been seen before
pub parted_any : (rule : Goal) (seen : Option ℕ) (taken : List Cell) (closed : List (List (ℕ × ℕ) × Why)) (put strange : List Cell) → ArePartedInto rule seen taken closed put strange
    → ArePartedInto rule None taken closed put strange
parted_any rule seen taken closed put strange parts = record {
  parted = parts.parted;
  closed_are = closed_more rule seen None taken taken (λ c has. has) (λ total none. absurd (cc)) closed parts.closed_are;
  put_are = put_more rule seen None taken taken (λ c has. has) (λ total none. absurd (cc)) put parts.put_are;
  strange_are = parts.strange_are;
}

-- what some calls did and what others did is what they all did
pub worked_both : (rule : Goal) (taken put : List Cell) (closed : List (List (ℕ × ℕ) × Why)) (strange taken' put' : List Cell) (closed' : List (List (ℕ × ℕ) × Why)) (strange' : List Cell)
    → ArePartedInto rule None taken closed put strange → ArePartedInto rule None taken' closed' put' strange'
    → ArePartedInto rule None (taken ++ taken') (closed ++ closed') (put ++ put') (strange ++ strange')
worked_both rule taken put closed strange taken' put' closed' strange' one other =
    let left : (c : Cell) → Contains taken c → Contains (taken ++ taken') c = λ c. Contains-append_left taken taken' c in
    let right : (c : Cell) → Contains taken' c → Contains (taken ++ taken') c = λ c. Contains-append_right taken taken' c in
    record {
      parted = λ tuple. omega (
        arith,
        one.parted tuple,
        other.parted tuple,
        times_held-append taken taken' tuple,
        times_closed-append closed closed' tuple,
        times_held-append put put' tuple,
        times_held-append strange strange' tuple,
      );
      strange_are = All-append (IsStrange rule (taken ++ taken')) strange strange' (stranger rule None None taken (taken ++ taken') left (λ t is. is) strange one.strange_are)
          (stranger rule None None taken' (taken ++ taken') right (λ t is. is) strange' other.strange_are);
      closed_are = All-append (λ (box : List (ℕ × ℕ) × Why). IsFromTaken rule None (taken ++ taken') box.0) closed closed'
          (closed_more rule None None taken (taken ++ taken') left (λ t is. is) closed one.closed_are)
          (closed_more rule None None taken' (taken ++ taken') right (λ t is. is) closed' other.closed_are);
      put_are = All-append (PartIn rule None (taken ++ taken')) put put' (put_more rule None None taken (taken ++ taken') left (λ t is. is) put one.put_are)
          (put_more rule None None taken' (taken ++ taken') right (λ t is. is) put' other.put_are);
    }

-- a list that weighs something has an element that does
some_weight : (weight : Cell → ℕ) (cells : List Cell) → 0 < sum_by weight cells → (k : ℕ) × (k < length cells) × ((d : Cell) → 0 < weight (get_or cells k d))
some_weight weight [] some = absurd (omega arith)
some_weight weight (cell ∷ cells) some =
    let sum = sum_by-cons weight cell cells in
    elim (eq-zero-or-pos (weight cell)) [
      | inr more ↦ (0, omega arith, λ d. more)
      | inl none ↦
          let rest = some_weight weight cells (omega arith) in
          (suc rest.0, omega (arith, rest.1), rest.2)
    ]

same_where : (b : Bool) → 0 < cond b 1 0 → b ≡ true
same_where true some = refl
same_where false some = absurd (omega arith)

-- what was taken stands among what was put, where they weigh the same
pub taken_put : (taken put : List Cell) (k : ℕ) (d : Cell) → WeighSame taken put → k < length taken → (j : ℕ) × (j < length put) × (spans_of (get_or put j d) ≡ spans_of (get_or taken k d))
taken_put taken put k d same below =
    let cell = get_or taken k d in
    let weight : Cell → ℕ = λ other. cond (is_same (spans_of cell) (spans_of other)) 1 0 in
    let least = get_or-le-sum_by weight taken k d below in
    let one : weight cell ≡ 1 = ap (λ (b : Bool). cond b 1 0) (is-same (spans_of cell)) in
    let at = some_weight weight put (omega (arith, same.weighs weight, least, one)) in
    (at.0, at.1, sym (same-is (spans_of cell) (spans_of (get_or put at.0 d)) (same_where (is_same (spans_of cell) (spans_of (get_or put at.0 d))) (at.2 d))))

-- a covered cell reaches no further
pub spread-covers : (outer inner : List (ℕ × ℕ)) → Covers outer inner → spread inner ≤ spread outer
unfolding spread
spread-covers [] [] covers = omega arith
spread-covers [] (i ∷ is) covers = absurd covers
spread-covers (o ∷ os) [] covers = absurd covers
spread-covers (o ∷ os) (i ∷ is) covers = omega (arith, spread-covers os is covers.2, covers.0, covers.1)

spread-half : (cell part : List (ℕ × ℕ)) → IsHalf cell part → spread part < spread cell
spread-half cell part is_half = elim is_half.either [
  | inl low ↦ omega (arith, ap spread low, spread-lower cell is_half.lower is_half.upper is_half.halves)
  | inr high ↦ omega (arith, ap spread high, spread-upper cell is_half.lower is_half.upper is_half.halves)
]

-- the cell of which a part was taken reaches further than the part, and no further than the whole
root_further : (rule : Goal) (taken : List Cell) (cell : List (ℕ × ℕ)) (part : IsPartOfTaken rule None taken cell)
    → (spread cell < spread part.root) × (spread part.root ≤ spread (whole_cell rule.axes))
root_further rule taken cell part =
    let less = spread-half part.is_cut.node cell part.is_cut.is_half in
    let within = spread-covers part.root part.is_cut.node (covers_node part.root part.is_cut.node part.is_cut.is_node) in
    (omega arith, spread-covers (whole_cell rule.axes) part.root part.is_taken.inside)

put_cases : (rule : Goal) (first : Cell) (cell : List (ℕ × ℕ)) (taken put : List Cell) (j : ℕ) (d : Cell) → spans_of first ≡ whole_cell rule.axes → All (PartIn rule None taken) put
    → j < length (first ∷ put) → spans_of (get_or (first ∷ put) j d) ≡ cell → (cell ≡ whole_cell rule.axes) ⊎ IsPartOfTaken rule None taken cell
put_cases rule first cell taken put zero d is halves below same = inl (sym same ∙ is)
put_cases rule first cell taken put (suc j) d is halves below same = inr (subst (IsPartOfTaken rule None taken) same (halves j d (omega arith)))

-- a cell that was taken is the whole, or a part of one that was taken
taken_cases : (rule : Goal) (first : Cell) (taken put : List Cell) (k : ℕ) (d : Cell) → spans_of first ≡ whole_cell rule.axes → WeighSame taken (first ∷ put) → All (PartIn rule None taken) put
    → k < length taken → (spans_of (get_or taken k d) ≡ whole_cell rule.axes) ⊎ PartIn rule None taken (get_or taken k d)
taken_cases rule first taken put k d is same halves below =
    let at = taken_put taken (first ∷ put) k d same below in
    put_cases rule first (spans_of (get_or taken k d)) taken put at.0 d is halves at.1 at.2

-- a part of a node of the whole is a node of it
part_node : (rule : Goal) (taken : List Cell) (cell : List (ℕ × ℕ)) (part : IsPartOfTaken rule None taken cell) → IsNode (whole_cell rule.axes) part.root
    → IsNode (whole_cell rule.axes) part.is_cut.node
part_node rule taken cell part root = node_through (whole_cell rule.axes) part.root part.is_cut.node root part.is_cut.is_node

-- each cell that was taken is a node of the whole
taken_node : (far : ℕ) (rule : Goal) (first : Cell) (taken put : List Cell) (k : ℕ) (d : Cell) → spans_of first ≡ whole_cell rule.axes → WeighSame taken (first ∷ put)
    → All (PartIn rule None taken) put → k < length taken → spread (whole_cell rule.axes) - spread (spans_of (get_or taken k d)) ≤ far
    → IsNode (whole_cell rule.axes) (spans_of (get_or taken k d))
taken_node zero rule first taken put k d is same halves below near = elim (taken_cases rule first taken put k d is same halves below) [
  | inl all ↦ subst (IsNode (whole_cell rule.axes)) (sym all) (whole (whole_cell rule.axes))
  | inr part ↦
      let further = root_further rule taken (spans_of (get_or taken k d)) part in
      absurd (omega (arith, further.0, further.1))
]
taken_node (suc far) rule first taken put k d is same halves below near = elim (taken_cases rule first taken put k d is same halves below) [
  | inl all ↦ subst (IsNode (whole_cell rule.axes)) (sym all) (whole (whole_cell rule.axes))
  | inr part ↦
      let further = root_further rule taken (spans_of (get_or taken k d)) part in
      let at = part.is_taken.is_taken in
      let root_is : spans_of (get_or taken at.0 part.is_taken.root) ≡ part.root = ap spans_of at.2 ∙ sym part.is_taken.is in
      let root = taken_node far rule first taken put at.0 part.is_taken.root is same halves at.1 (omega (arith, ap spread root_is, further.0, further.1)) in
      half (whole_cell rule.axes) part.is_cut.node (spans_of (get_or taken k d))
      (part_node rule taken (spans_of (get_or taken k d)) part (subst (IsNode (whole_cell rule.axes)) root_is root)) part.is_cut.is_half
]

contained_node : (rule : Goal) (first : Cell) (taken put : List Cell) (closed : List (List (ℕ × ℕ) × Why)) (strange : List Cell) (cell : Cell) → CameToAll rule first taken put closed strange
    → Contains taken cell → IsNode (whole_cell rule.axes) (spans_of cell)
contained_node rule first taken put closed strange cell all at =
    subst (λ (c : Cell). IsNode (whole_cell rule.axes) (spans_of c)) at.2
    (taken_node (spread (whole_cell rule.axes)) rule first taken put at.0 cell all.is_whole all.balanced all.worked.put_are at.1 (omega arith))

part_needed : (rule : Goal) (first : Cell) (taken put : List Cell) (closed : List (List (ℕ × ℕ) × Why)) (strange : List Cell) (cell : List (ℕ × ℕ)) → CameToAll rule first taken put closed strange
    → IsPartOfTaken rule None taken cell → IsNeeded rule cell
part_needed rule first taken put closed strange cell all part =
    let root = contained_node rule first taken put closed strange part.is_taken.root all part.is_taken.is_taken in
    inr (record {
      node = part.is_cut.node;
      is_node = part_node rule taken cell part (subst (IsNode (whole_cell rule.axes)) (sym part.is_taken.is) root);
      is_open = part.is_cut.is_open;
      is_half = part.is_cut.is_half;
    })

contained_needed : (rule : Goal) (first : Cell) (taken put : List Cell) (closed : List (List (ℕ × ℕ) × Why)) (strange : List Cell) (cell : Cell) → CameToAll rule first taken put closed strange
    → Contains taken cell → IsNeeded rule (spans_of cell)
contained_needed rule first taken put closed strange cell all at =
    elim (taken_cases rule first taken put at.0 cell all.is_whole all.balanced all.worked.put_are at.1) [
      | inl is ↦ inl (subst (λ (c : Cell). spans_of c ≡ whole_cell rule.axes) at.2 is)
      | inr part ↦ part_needed rule first taken put closed strange (spans_of cell) all (subst (PartIn rule None taken) at.2 part)
    ]

-- each closed cell is one that a search comes to
pub closed_needed : (rule : Goal) (first : Cell) (taken put : List Cell) (closed : List (List (ℕ × ℕ) × Why)) (strange : List Cell) → CameToAll rule first taken put closed strange
    → All (λ box. IsNeeded rule box.0) closed
closed_needed rule first taken put closed strange all k d below = elim (all.worked.closed_are k d below) [
  | inl is ↦ subst (IsNeeded rule) (sym is.is) (contained_needed rule first taken put closed strange is.root all is.is_taken)
  | inr part ↦ part_needed rule first taken put closed strange (get_or closed k d).0 all part
]

-- no cell is strange
none_strange : (rule : Goal) (first : Cell) (taken put : List Cell) (closed : List (List (ℕ × ℕ) × Why)) (strange : List Cell) → CameToAll rule first taken put closed strange → strange ≡ []
none_strange rule first taken put closed [] all = refl
none_strange rule first taken put closed (cell ∷ cells) all =
    let is = all.worked.strange_are 0 cell (omega arith) in
    absurd (is.outside (covers_node (whole_cell rule.axes) (spans_of cell) (contained_node rule first taken put closed (cell ∷ cells) cell all is.is_taken)))

held-weight : (cells : List Cell) (tuple : List ℕ) → times_held cells tuple ≡ sum_by (λ cell. cond (holds (spans_of cell) tuple) 1 0) cells
held-weight [] tuple = refl
held-weight (cell ∷ cells) tuple =
    let one = sum_by-cons (λ (c : List (ℕ × ℕ)). cond (holds c tuple) 1 0) (spans_of cell) (map spans_of cells) in
    let more = sum_by-cons (λ (c : Cell). cond (holds (spans_of c) tuple) 1 0) cell cells in
    omega (arith, held-weight cells tuple)

-- what a search comes to is a node of the whole cell
needed_node : (rule : Goal) (cell : List (ℕ × ℕ)) → IsNeeded rule cell → IsNode (whole_cell rule.axes) cell
needed_node rule cell (inl is) = subst (IsNode (whole_cell rule.axes)) (sym is) (whole (whole_cell rule.axes))
needed_node rule cell (inr part) = half (whole_cell rule.axes) part.node cell part.is_node part.is_half

-- the closed cells part the whole one
pub closed_parts : (rule : Goal) (first : Cell) (taken put : List Cell) (closed : List (List (ℕ × ℕ) × Why)) (strange : List Cell) → CameToAll rule first taken put closed strange
    → AreParts (whole_cell rule.axes) (cells_of closed)
closed_parts rule first taken put closed strange all = record {
  nodes = All-map (IsNode (whole_cell rule.axes)) (λ box. box.0) closed (λ k d below. needed_node rule (get_or closed k d).0 (closed_needed rule first taken put closed strange all k d below));
  once = λ tuple held.
      let weight : Cell → ℕ = λ cell. cond (holds (spans_of cell) tuple) 1 0 in
      let parted = all.worked.parted tuple in
      let none : times_held strange tuple ≡ 0 = ap (λ (cells : List Cell). times_held cells tuple) (none_strange rule first taken put closed strange all) in
      let one : weight first ≡ 1 = ap (λ (c : List (ℕ × ℕ)). cond (holds c tuple) 1 0) all.is_whole ∙ ap (λ (b : Bool). cond b 1 0) held in
      omega (arith, all.balanced.weighs weight, sum_by-cons weight first put, held-weight taken tuple, held-weight put tuple);
}
