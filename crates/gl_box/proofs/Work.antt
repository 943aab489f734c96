-- The open cells of a search: how many steps they can take.
use Rattle.std.proofs.Common.{◌≡◌, ap, inl, inr, ℕ, zero, suc, ◌+◌, ◌<◌, ◌≤◌, List, [], ◌∷◌, ◌++◌, Option, arith}
use Rattle.gl_box.specs.declared.cell.Cell.{Cell}
use Rattle.gl_box.specs.Along.{Advances, Closes, Cuts}
use Rattle.gl_box.specs.Cell.{spans_of}
use Rattle.gl_box.proofs.Nodes.{spread, spread-lower, spread-upper}

-- how many steps a cell can take whose spans reach so far
unfoldable pub turns : ℕ → ℕ
turns zero = 1
turns (suc reach) = suc (turns reach + turns reach)

unfoldable pub work_of : List Cell → ℕ
work_of [] = 0
work_of (cell ∷ cells) = turns (spread (spans_of cell)) + work_of cells

pub turns_some : (reach : ℕ) → 0 < turns reach
unfolding turns
turns_some zero = omega arith
turns_some (suc reach) = omega arith

turns_more : (less more : ℕ) → less ≤ more → turns less ≤ turns more
unfolding turns
turns_more zero more order = turns_some more
turns_more (suc less) zero order = absurd (omega arith)
turns_more (suc less) (suc more) order = omega (arith, turns_more less more (omega arith))

pub turns_cut : (lower upper all : ℕ) → lower < all → upper < all → turns lower + turns upper < turns all
unfolding turns
turns_cut lower upper zero low high = absurd (omega arith)
turns_cut lower upper (suc all) low high = omega (arith, turns_more lower all (omega arith), turns_more upper all (omega arith))

pub work_of-append : (xs ys : List Cell) → work_of (xs ++ ys) ≡ work_of xs + work_of ys
unfolding work_of
work_of-append [] ys = omega arith
work_of-append (x ∷ xs) ys = omega (arith, work_of-append xs ys)

pub work_of-one : (cell : Cell) → work_of (cell ∷ []) ≡ turns (spread (spans_of cell))
unfolding work_of
work_of-one cell = omega arith

closes_falls : {W : Type 0} (cell : Cell) (before after : List Cell) (turns_before turns_after : List (Option W)) (why : W) → Closes cell before after turns_before turns_after why
    → work_of after < work_of before
closes_falls cell before after turns_before turns_after why closes =
    omega (arith, ap work_of closes.top, work_of-append after (cell ∷ []), work_of-one cell, turns_some (spread (spans_of cell)))

cuts_falls : {W : Type 0} (cell : Cell) (before after : List Cell) (turns_before turns_after : List (Option W)) → Cuts cell before after turns_before turns_after → work_of after < work_of before
cuts_falls cell before after turns_before turns_after cuts =
    let rest = cuts.rest in
    let low = spread-lower (spans_of cell) (spans_of cuts.lower) (spans_of cuts.upper) cuts.halves in
    let high = spread-upper (spans_of cell) (spans_of cuts.lower) (spans_of cuts.upper) cuts.halves in
    let less = turns_cut _ _ _ low high in
    let all = work_of-append (rest ++ cuts.upper ∷ []) (cuts.lower ∷ []) in
    omega (arith, less, ap work_of cuts.top, ap work_of cuts.cut, work_of-append rest (cell ∷ []), all, work_of-append rest (cuts.upper ∷ []), work_of-one cell, work_of-one cuts.lower, work_of-one cuts.upper)

-- each step leaves less work
pub work_falls : {W : Type 0} (IsClosed : List (ℕ × ℕ) → W → Type 0) (IsOpen : List (ℕ × ℕ) → Type 0) (before after : List Cell) (turns_before turns_after : List (Option W))
    → Advances IsClosed IsOpen before after turns_before turns_after → work_of after < work_of before
work_falls IsClosed IsOpen before after turns_before turns_after (inl closed) = closes_falls closed.cell before after turns_before turns_after closed.why closed.closes
work_falls IsClosed IsOpen before after turns_before turns_after (inr open_) = cuts_falls open_.cell before after turns_before turns_after open_.cuts
