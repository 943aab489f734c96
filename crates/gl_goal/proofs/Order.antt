-- Tuples of the whole cell, and what their order in time has to do with the order of a cell.
use Rattle.std.proofs.Common.{◌≡◌, ap, refl, ℕ, zero, suc, ◌-◌, ◌<◌, ◌≤◌, inl, inr, List, [], ◌∷◌, length, get_or, arith}
use Rattle.std.specs.Prelude.{All}
use Rattle.std.specs.List.Sorted.{IsStrictlyIncreasing}
use Rattle.std.proofs.lemmas.Bool.{cases_order}
use Rattle.std.proofs.lemmas.List.Kept.{AllPairs-from_increasing}
use Rattle.gl_box.specs.Cell.{Covers, Holds, point}
use Rattle.gl_box.specs.Halves.{span_at}
use Rattle.gl_box.proofs.Held.{covers_at, holds_at, holds_whole, length-covers}
use Rattle.gl_goal.specs.Goal.{IsDisordered, IsInTimeOrder, IsTuple, chosen, whole_cell}
use Rattle.gl_goal.specs.Lemmas.Points.{length-chosen, get_or-chosen, place_within}
use Rattle.std.proofs.lemmas.List.Elements.{All-tail}

-- the whole cell holds the tuples
pub tuple_held : (axes : List (List ℕ)) (tuple : List ℕ) → IsTuple axes tuple → Holds (whole_cell axes) tuple
tuple_held [] [] fits = refl
tuple_held [] (place ∷ places) fits = absurd fits
tuple_held (axis ∷ axes) [] fits = absurd fits
tuple_held (axis ∷ axes) (place ∷ places) fits =
    holds_whole (0, length axis - 1) (whole_cell axes) place places (omega arith) (omega (arith, fits.0)) (tuple_held axes places fits.1)

-- in time order, no later number is smaller
first_least : (x : ℕ) (xs : List ℕ) (j : ℕ) → IsInTimeOrder (x ∷ xs) → j < length xs → x ≤ get_or xs j 0
first_least x [] j order below = absurd (omega arith)
first_least x (y ∷ ys) zero order below = order.0
first_least x (y ∷ ys) (suc j) order below = omega (arith, order.0, first_least y ys j order.1 (omega arith))

order_rest : (x : ℕ) (xs : List ℕ) → IsInTimeOrder (x ∷ xs) → IsInTimeOrder xs
order_rest x [] order = tt
order_rest x (y ∷ ys) order = order.1

pub order_at : (xs : List ℕ) (i j : ℕ) → IsInTimeOrder xs → i < j → j < length xs → get_or xs i 0 ≤ get_or xs j 0
order_at [] i j order less below = absurd (omega arith)
order_at (x ∷ xs) i zero order less below = absurd (omega arith)
order_at (x ∷ xs) zero (suc j) order less below = first_least x xs j order (omega arith)
order_at (x ∷ xs) (suc i) (suc j) order less below = order_at xs i j (order_rest x xs order) (omega arith) (omega arith)

-- fixes rise with their places
pub fix_rises : (axis : List ℕ) (p q : ℕ) → IsStrictlyIncreasing axis → p ≤ q → q < length axis → get_or axis p 0 ≤ get_or axis q 0
fix_rises axis p q rising less below = elim (cases_order p q) [
  | inl same ↦ omega (arith, ap (λ (k : ℕ). get_or axis k 0) same)
  | inr other ↦ elim other [
    | inl before ↦ omega (arith, AllPairs-from_increasing axis rising p q 0 before below)
    | inr after ↦ absurd (omega arith)
  ]
]

pub span_at-whole : (axes : List (List ℕ)) (k : ℕ) → k < length axes → span_at (whole_cell axes) k ≡ (0, length (get_or axes k []) - 1)
span_at-whole [] k below = absurd (omega arith)
span_at-whole (axis ∷ axes) zero below = refl
span_at-whole (axis ∷ axes) (suc k) below = span_at-whole axes k (omega arith)

pub length-whole : (axes : List (List ℕ)) → length (whole_cell axes) ≡ length axes
length-whole [] = refl
length-whole (axis ∷ axes) = ap suc (length-whole axes)

-- no tuple of a disordered cell is in time order
pub disordered_out : (axes : List (List ℕ)) (cell : List (ℕ × ℕ)) (tuple : List ℕ) → All IsStrictlyIncreasing axes → Covers (whole_cell axes) cell → IsDisordered axes cell → Holds cell tuple
    → IsTuple axes tuple → IsInTimeOrder (chosen axes tuple) → ⊥
disordered_out axes cell tuple rising covers disordered held fits order =
    let i = disordered.earlier in
    let j = disordered.later in
    let apart : i < j = disordered.apart in
    let j_in : j < length axes = disordered.within in
    let i_in : i < length axes = omega arith in
    let long = length-covers (whole_cell axes) cell covers in
    let size = length-whole axes in
    let at_i = holds_at cell tuple i held (omega (arith, long, size)) in
    let at_j = holds_at cell tuple j held (omega (arith, long, size)) in
    let cover = covers_at (whole_cell axes) cell j covers (omega (arith, size)) in
    let end = ap (λ (s : ℕ × ℕ). s.1) (span_at-whole axes j j_in) in
    let place_j = place_within axes tuple j fits j_in in
    let high : (span_at cell j).1 < length (get_or axes j []) = omega (arith, cover.1, end, place_j) in
    let low_fix = fix_rises (get_or axes i []) (span_at cell i).0 (get_or tuple i 0) (rising i [] i_in) at_i.0 (place_within axes tuple i fits i_in) in
    let high_fix = fix_rises (get_or axes j []) (get_or tuple j 0) (span_at cell j).1 (rising j [] j_in) at_j.1 high in
    let between = order_at (chosen axes tuple) i j order apart (omega (arith, length-chosen axes tuple fits)) in
    omega (arith, low_fix, high_fix, between, get_or-chosen axes tuple i fits i_in, get_or-chosen axes tuple j fits j_in, disordered.above)

-- the whole cell covers the cell of each tuple, and of tuples alone
pub whole_covers_point : (axes : List (List ℕ)) (tuple : List ℕ) → IsTuple axes tuple → Covers (whole_cell axes) (point tuple)
whole_covers_point [] [] fits = tt
whole_covers_point [] (place ∷ places) fits = absurd fits
whole_covers_point (axis ∷ axes) [] fits = absurd fits
whole_covers_point (axis ∷ axes) (place ∷ places) fits = (omega arith, omega (arith, fits.0), whole_covers_point axes places fits.1)

pub covered_tuple : (axes : List (List ℕ)) (tuple : List ℕ) → All (λ axis. 0 < length axis) axes → Covers (whole_cell axes) (point tuple) → IsTuple axes tuple
covered_tuple [] [] some covers = tt
covered_tuple [] (place ∷ places) some covers = absurd covers
covered_tuple (axis ∷ axes) [] some covers = absurd covers
covered_tuple (axis ∷ axes) (place ∷ places) some covers =
    let one : 0 < length axis = some 0 [] (omega arith) in
    (omega (arith, covers.1, one), covered_tuple axes places (All-tail (λ axis. 0 < length axis) axis axes some) covers.2)
