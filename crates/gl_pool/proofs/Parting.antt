-- What was taken stays parted with each step.
use Rattle.std.proofs.Common.{◌≡◌, ◌∙◌, ap, refl, ℕ, suc, ◌+◌, ◌<◌, inl, inr, List, [], ◌∷◌, ◌++◌, length, map, arith}
use Rattle.std.specs.Prelude.{All, Contains, Option, Some}
use Rattle.std.proofs.lemmas.Bool.{cases_lt}
use Rattle.std.proofs.lemmas.List.{length-append, map-append}
use Rattle.std.proofs.lemmas.List.Elements.{All-nil, All-push, All-weaker, Contains-append_left, Contains-push}
use Rattle.gl_box.specs.declared.cell.Cell.{Cell}
use Rattle.gl_box.specs.declared.closed.Why.{Why}
use Rattle.gl_box.specs.Cell.{Covers, spans_of}
use Rattle.gl_box.specs.Halves.{AreHalves, IsHalf}
use Rattle.gl_box.specs.Frontier.{mult}
use Rattle.gl_box.specs.Frontier.IsNode.{whole, half}
use Rattle.gl_box.proofs.Nodes.{covers_node, covers_through}
use Rattle.gl_box.proofs.Parts.{mult-append, mult-halves}
use Rattle.gl_goal.specs.Goal.{Goal, IsOpen, whole_cell}
use Rattle.gl_order.specs.Order.{cells_of}
use Rattle.gl_pool.specs.Parts.{ArePartedInto, IsFromTaken, IsPartOfTaken, IsStrange, IsTakenInside, times_closed, times_held}
use Rattle.gl_pool.specs.Code.UnderWay.{AreBeingParted}
use Rattle.gl_text.proofs.Lists.{All-last}

pub times_held-append : (xs ys : List Cell) (tuple : List ℕ) → times_held (xs ++ ys) tuple ≡ times_held xs tuple + times_held ys tuple
times_held-append xs ys tuple = ap (λ (cells : List (List (ℕ × ℕ))). mult cells tuple) (map-append spans_of xs ys) ∙ mult-append (map spans_of xs) (map spans_of ys) tuple

pub times_closed-append : (xs ys : List (List (ℕ × ℕ) × Why)) (tuple : List ℕ) → times_closed (xs ++ ys) tuple ≡ times_closed xs tuple + times_closed ys tuple
times_closed-append xs ys tuple =
    ap (λ (cells : List (List (ℕ × ℕ))). mult cells tuple) (map-append (λ (b : List (ℕ × ℕ) × Why). b.0) xs ys) ∙ mult-append (cells_of xs) (cells_of ys) tuple

-- a part of what was taken, and such or a cell that was taken, by cells
abbrev pub PartIn : Goal → Option ℕ → List Cell → Cell → Type 0
PartIn rule seen taken cell = IsPartOfTaken rule seen taken (spans_of cell)

abbrev pub FromIn : Goal → Option ℕ → List Cell → Cell → Type 0
FromIn rule seen taken cell = IsFromTaken rule seen taken (spans_of cell)

-- whatever else is taken, and where no more had been seen, a part stays one
module _ (rule : Goal) (seen less : Option ℕ) (taken more : List Cell) (grows : (cell : Cell) → Contains taken cell → Contains more cell)
    (fewer : (total : ℕ) → less ≡ Some total → seen ≡ Some total) where
  inside_more : (cell : List (ℕ × ℕ)) → IsTakenInside rule taken cell → IsTakenInside rule more cell
  inside_more cell is = record { root = is.root; is_taken = grows is.root is.is_taken; is = is.is; inside = is.inside }

  pub part_more : (cell : List (ℕ × ℕ)) → IsPartOfTaken rule seen taken cell → IsPartOfTaken rule less more cell
  part_more cell part =
      let cut = part.is_cut in
      record {
        root = part.root;
        is_taken = inside_more part.root part.is_taken;
        is_cut = record { node = cut.node; is_node = cut.is_node; is_open = cut.is_open; above = λ total is. cut.above total (fewer total is); is_half = cut.is_half };
      }

  pub from_more : (cell : List (ℕ × ℕ)) → IsFromTaken rule seen taken cell → IsFromTaken rule less more cell
  from_more cell (inl is) = inl (inside_more cell is)
  from_more cell (inr part) = inr (part_more cell part)

  pub strange_more : (cell : Cell) → IsStrange rule taken cell → IsStrange rule more cell
  strange_more cell is = record { is_taken = grows cell is.is_taken; outside = is.outside }

  -- what was parted stays so
  pub closed_more : (closed : List (List (ℕ × ℕ) × Why)) → All (λ box. IsFromTaken rule seen taken box.0) closed → All (λ box. IsFromTaken rule less more box.0) closed
  closed_more closed are k d below = from_more _ (are k d below)

  pub put_more : (put : List Cell) → All (PartIn rule seen taken) put → All (PartIn rule less more) put
  put_more put are k d below = part_more _ (are k d below)

  pub stranger : (strange : List Cell) → All (IsStrange rule taken) strange → All (IsStrange rule more) strange
  stranger strange are k d below = strange_more _ (are k d below)

-- the whole cell covers what a worker comes to
pub from_covered : (rule : Goal) (seen : Option ℕ) (taken : List Cell) (cell : List (ℕ × ℕ)) → IsFromTaken rule seen taken cell → Covers (whole_cell rule.axes) cell
from_covered rule seen taken cell (inl is) = is.inside
from_covered rule seen taken cell (inr is) =
    let cut = is.is_cut in
    covers_through (whole_cell rule.axes) is.root cell is.is_taken.inside (covers_node is.root cell (half is.root cut.node cell cut.is_node cut.is_half))

-- a half of what a worker comes to is a part
pub half_part : (rule : Goal) (seen : Option ℕ) (taken : List Cell) (cell part : List (ℕ × ℕ)) → IsFromTaken rule seen taken cell → IsOpen rule cell
    → ((total : ℕ) → seen ≡ Some total → total < rule.bound cell) → IsHalf cell part → IsPartOfTaken rule seen taken part
half_part rule seen taken cell part (inl is) is_open above is_half =
    record { root = cell; is_taken = is; is_cut = record { node = cell; is_node = whole cell; is_open = is_open; above = above; is_half = is_half } }
half_part rule seen taken cell part (inr is) is_open above is_half =
    let cut = is.is_cut in
    let node = half is.root cut.node cell cut.is_node cut.is_half in
    record { root = is.root; is_taken = is.is_taken; is_cut = record { node = cell; is_node = node; is_open = is_open; above = above; is_half = is_half } }

-- nothing was taken yet
pub parted_start : (rule : Goal) (seen : Option ℕ) → AreBeingParted rule seen [] [] [] [] []
parted_start rule seen = record {
  parted = λ tuple. refl;
  cells_are = All-nil _;
  parts = λ many. absurd (omega arith);
  closed_are = All-nil _;
  put_are = All-nil _;
  strange_are = All-nil _;
}

-- nothing is left to look at
pub parted_done : (rule : Goal) (seen : Option ℕ) (taken : List Cell) (closed : List (List (ℕ × ℕ) × Why)) (put strange : List Cell) → AreBeingParted rule seen taken [] closed put strange
    → ArePartedInto rule seen taken closed put strange
parted_done rule seen taken closed put strange way = record {
  parted = λ tuple. omega (arith, way.parted tuple);
  closed_are = way.closed_are;
  put_are = way.put_are;
  strange_are = way.strange_are;
}

-- the cells before the last one are parts
parts_before : (rule : Goal) (seen : Option ℕ) (taken rest : List Cell) (cell : Cell) (closed : List (List (ℕ × ℕ) × Why)) (put strange : List Cell)
    → AreBeingParted rule seen taken (rest ++ cell ∷ []) closed put strange → All (PartIn rule seen taken) rest
parts_before rule seen taken rest cell closed put strange way = elim (cases_lt 0 (length rest)) [
  | inl some ↦ (All-last (PartIn rule seen taken) rest cell (way.parts (omega (arith, length-append rest (cell ∷ []))))).0
  | inr none ↦ λ k d below. absurd (omega arith)
]

-- the last cell is closed
pub parted_closed : (rule : Goal) (seen : Option ℕ) (taken rest : List Cell) (cell : Cell) (why : Why) (closed : List (List (ℕ × ℕ) × Why)) (put strange : List Cell)
    → AreBeingParted rule seen taken (rest ++ cell ∷ []) closed put strange → AreBeingParted rule seen taken rest (closed ++ (spans_of cell, why) ∷ []) put strange
parted_closed rule seen taken rest cell why closed put strange way =
    let box : List (ℕ × ℕ) × Why = (spans_of cell, why) in
    let cells = All-last (FromIn rule seen taken) rest cell way.cells_are in
    record {
      parted = λ tuple. omega (arith, way.parted tuple, times_held-append rest (cell ∷ []) tuple, times_closed-append closed (box ∷ []) tuple);
      cells_are = cells.0;
      parts = λ many. parts_before rule seen taken rest cell closed put strange way;
      closed_are = All-push (λ (b : List (ℕ × ℕ) × Why). IsFromTaken rule seen taken b.0) closed box way.closed_are cells.1;
      put_are = way.put_are;
      strange_are = way.strange_are;
    }

-- the last cell is cut
pub parted_cut : (rule : Goal) (seen : Option ℕ) (taken rest : List Cell) (cell lower upper : Cell) (closed : List (List (ℕ × ℕ) × Why)) (put strange : List Cell)
    → AreHalves (spans_of cell) (spans_of lower) (spans_of upper) → IsOpen rule (spans_of cell) → ((total : ℕ) → seen ≡ Some total → total < rule.bound (spans_of cell))
    → AreBeingParted rule seen taken (rest ++ cell ∷ []) closed put strange → AreBeingParted rule seen taken ((rest ++ upper ∷ []) ++ lower ∷ []) closed put strange
parted_cut rule seen taken rest cell lower upper closed put strange halves is_open above way =
    let cells = All-last (FromIn rule seen taken) rest cell way.cells_are in
    let before = parts_before rule seen taken rest cell closed put strange way in
    let low = half_part rule seen taken (spans_of cell) (spans_of lower) cells.1 is_open above (record { lower = spans_of lower; upper = spans_of upper; halves = halves; either = inl refl }) in
    let high = half_part rule seen taken (spans_of cell) (spans_of upper) cells.1 is_open above (record { lower = spans_of lower; upper = spans_of upper; halves = halves; either = inr refl }) in
    let parts = All-push (PartIn rule seen taken) (rest ++ upper ∷ []) lower (All-push (PartIn rule seen taken) rest upper before high) low in
    record {
      parted = λ tuple.
          omega (
            arith,
            way.parted tuple,
            mult-halves (spans_of cell) (spans_of lower) (spans_of upper) tuple halves,
            times_held-append rest (cell ∷ []) tuple,
            times_held-append (rest ++ upper ∷ []) (lower ∷ []) tuple,
            times_held-append rest (upper ∷ []) tuple,
          );
      cells_are = All-weaker (PartIn rule seen taken) (FromIn rule seen taken) (λ c is. inr is) ((rest ++ upper ∷ []) ++ lower ∷ []) parts;
      parts = λ many. parts;
      closed_are = way.closed_are;
      put_are = way.put_are;
      strange_are = way.strange_are;
    }

-- the first cell of several is put
pub parted_put : (rule : Goal) (seen : Option ℕ) (taken rest : List Cell) (cell : Cell) (closed : List (List (ℕ × ℕ) × Why)) (put strange : List Cell) → 1 < length (cell ∷ rest)
    → AreBeingParted rule seen taken (cell ∷ rest) closed put strange → AreBeingParted rule seen taken rest closed (put ++ cell ∷ []) strange
parted_put rule seen taken rest cell closed put strange many way =
    let parts = way.parts many in
    record {
      parted = λ tuple. omega (arith, way.parted tuple, times_held-append (cell ∷ []) rest tuple, times_held-append put (cell ∷ []) tuple);
      cells_are = λ k d below. way.cells_are (suc k) d (omega arith);
      parts = λ more k d below. parts (suc k) d (omega arith);
      closed_are = way.closed_are;
      put_are = All-push (PartIn rule seen taken) put cell way.put_are (parts 0 cell (omega arith));
      strange_are = way.strange_are;
    }

-- a cell is taken, and lies inside the whole cell
pub parted_inside : (rule : Goal) (seen : Option ℕ) (taken : List Cell) (cell : Cell) (closed : List (List (ℕ × ℕ) × Why)) (put strange : List Cell) → Covers (whole_cell rule.axes) (spans_of cell)
    → AreBeingParted rule seen taken [] closed put strange → AreBeingParted rule seen (taken ++ cell ∷ []) (cell ∷ []) closed put strange
parted_inside rule seen taken cell closed put strange inside way =
    let more = cell ∷ [] in
    let grows : (c : Cell) → Contains taken c → Contains (taken ++ more) c = λ c. Contains-append_left taken more c in
    let is : IsTakenInside rule (taken ++ more) (spans_of cell) = record { root = cell; is_taken = Contains-push taken cell; is = refl; inside = inside } in
    record {
      parted = λ tuple. omega (arith, way.parted tuple, times_held-append taken (cell ∷ []) tuple);
      cells_are = All-push (FromIn rule seen (taken ++ more)) [] cell (All-nil _) (inl is);
      parts = λ many. absurd (omega arith);
      closed_are = closed_more rule seen seen taken (taken ++ more) grows (λ total is. is) closed way.closed_are;
      put_are = put_more rule seen seen taken (taken ++ more) grows (λ total is. is) put way.put_are;
      strange_are = stranger rule seen seen taken (taken ++ more) grows (λ total is. is) strange way.strange_are;
    }

-- a cell is taken, and doesn't lie inside
pub parted_outside : (rule : Goal) (seen : Option ℕ) (taken : List Cell) (cell : Cell) (closed : List (List (ℕ × ℕ) × Why)) (put strange : List Cell)
    → (Covers (whole_cell rule.axes) (spans_of cell) → ⊥) → AreBeingParted rule seen taken [] closed put strange → AreBeingParted rule seen (taken ++ cell ∷ []) [] closed put (strange ++ cell ∷ [])
parted_outside rule seen taken cell closed put strange outside way =
    let more = cell ∷ [] in
    let grows : (c : Cell) → Contains taken c → Contains (taken ++ more) c = λ c. Contains-append_left taken more c in
    let is : IsStrange rule (taken ++ more) cell = record { is_taken = Contains-push taken cell; outside = outside } in
    record {
      parted = λ tuple. omega (arith, way.parted tuple, times_held-append taken (cell ∷ []) tuple, times_held-append strange (cell ∷ []) tuple);
      cells_are = All-nil _;
      parts = λ many. absurd (omega arith);
      closed_are = closed_more rule seen seen taken (taken ++ more) grows (λ total is. is) closed way.closed_are;
      put_are = put_more rule seen seen taken (taken ++ more) grows (λ total is. is) put way.put_are;
      strange_are = All-push (IsStrange rule (taken ++ more)) strange cell (stranger rule seen seen taken (taken ++ more) grows (λ total is. is) strange way.strange_are) is;
    }
