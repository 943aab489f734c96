-- Tuples whose places are chosen one by one.
use Rattle.std.proofs.Common.{◌≡◌, ◌∙◌, sym, subst, ℕ, zero, suc, ◌-◌, ◌<◌, ◌≤◌, List, [], ◌∷◌, ◌++◌, length, get_or, map, slice_set, replicate, arith}
use Rattle.std.specs.Prelude.{All, IfSome, Option, None, Some}
use Rattle.std.specs.Option.{option_to_list}
use Rattle.std.proofs.lemmas.List.{append-nil}
use Rattle.std.proofs.lemmas.List.Elements.{All-pop, All-push, All-tail}
use Rattle.gl_box.specs.declared.span.Span.{Span}
use Rattle.gl_box.specs.declared.cell.Cell.{Cell}
use Rattle.gl_box.specs.Cell.{Covers, ends, spans_of}
use Rattle.gl_plain.specs.declared.dive.Candidate.{Candidate}
use Rattle.gl_plain.specs.Code.Steps.{AreWithin}
use Rattle.gl_box.specs.declared.tuple.Tuple.{Tuple}
use Rattle.gl_box.specs.Tuple.{places_of}
use Rattle.gl_box.proofs.Spans.{length-places_of}
use Rattle.gl_goal.specs.Goal.{Goal, IsTuple, whole_cell}
use Rattle.gl_goal.specs.Lemmas.Points.{length-tuple}

-- a tuple with another place on one axis
pub tuple-set : (axes : List (List ℕ)) (tuple : List ℕ) (k place : ℕ) → IsTuple axes tuple → place < length (get_or axes k []) → IsTuple axes (slice_set tuple k place)
tuple-set [] [] k place fits inside = tt
tuple-set [] (p ∷ ps) k place fits inside = absurd fits
tuple-set (axis ∷ axes) [] k place fits inside = absurd fits
tuple-set (axis ∷ axes) (p ∷ ps) zero place fits inside = (inside, fits.1)
tuple-set (axis ∷ axes) (p ∷ ps) (suc k) place fits inside = (fits.0, tuple-set axes ps k place fits.1 inside)

-- the first place on each axis
pub first_tuple : (axes : List (List ℕ)) → All (λ axis. 0 < length axis) axes → IsTuple axes (replicate (length axes) 0)
first_tuple [] some = tt
first_tuple (axis ∷ axes) some = (some 0 [] (omega arith), first_tuple axes (All-tail (λ axis. 0 < length axis) axis axes some))

pub axes-tuple : (axes : List (List ℕ)) (tuple : Tuple) → IsTuple axes (places_of tuple) → tuple.axes ≡ length axes
axes-tuple axes tuple fits = sym (length-places_of tuple) ∙ length-tuple axes (places_of tuple) fits

pub tuple_along : (axes : List (List ℕ)) (xs ys : List ℕ) → xs ≡ ys → IsTuple axes ys → IsTuple axes xs
tuple_along axes xs ys same = subst (IsTuple axes) (sym same)

-- the low ends of a cell in the whole cell are a tuple
pub lowest_tuple : (axes : List (List ℕ)) (spans : List Span) → All (λ axis. 0 < length axis) axes → Covers (whole_cell axes) (map ends spans) → IsTuple axes (map (λ span. span.0) (map ends spans))
lowest_tuple [] [] some covers = tt
lowest_tuple [] (span ∷ spans) some covers = absurd covers
lowest_tuple (axis ∷ axes) [] some covers = absurd covers
lowest_tuple (axis ∷ axes) (span ∷ spans) some covers =
    let one : 0 < length axis = some 0 [] (omega arith) in
    let order : span.lo ≤ span.hi = span.ordered in
    (omega (arith, covers.1, one, order), lowest_tuple axes spans (All-tail (λ axis. 0 < length axis) axis axes some) covers.2)

-- candidates in the whole cell, and one more
pub within_some : (rule : Goal) (xs ys : List Candidate) (it : Option Candidate) (cell : Cell) → AreWithin rule xs → Covers (whole_cell rule.axes) (spans_of cell)
    → IfSome it (λ candidate. candidate.cell ≡ cell) → ys ≡ xs ++ option_to_list it → AreWithin rule ys
within_some rule xs ys None cell within covers is more = subst (AreWithin rule) (sym more) (subst (AreWithin rule) (sym (append-nil xs)) within)
within_some rule xs ys (Some candidate) cell within covers is more =
    subst (AreWithin rule) (sym more) (All-push (λ (c : Candidate). Covers (whole_cell rule.axes) (spans_of c.cell)) xs candidate within
    (subst (λ (c : Cell). Covers (whole_cell rule.axes) (spans_of c)) (sym is) covers))

-- candidates in the whole cell, and the last of them
pub within_popped : (rule : Goal) (all rest : List Candidate) (top : Candidate) → all ≡ rest ++ top ∷ [] → AreWithin rule all → AreWithin rule rest × Covers (whole_cell rule.axes) (spans_of top.cell)
within_popped rule all rest top is within = All-pop (λ (c : Candidate). Covers (whole_cell rule.axes) (spans_of c.cell)) all rest (Some top) is within

-- a cell with the whole span on one axis is still covered
pub covers-set_whole : (axes : List (List ℕ)) (cell : List (ℕ × ℕ)) (axis : ℕ) → Covers (whole_cell axes) cell → axis < length axes
    → Covers (whole_cell axes) (slice_set cell axis (0, length (get_or axes axis []) - 1))
covers-set_whole [] cell axis covers inside = absurd (omega arith)
covers-set_whole (first ∷ axes) [] axis covers inside = absurd covers
covers-set_whole (first ∷ axes) (s ∷ ss) zero covers inside = (omega arith, omega arith, covers.2)
covers-set_whole (first ∷ axes) (s ∷ ss) (suc axis) covers inside = (covers.0, covers.1, covers-set_whole axes ss axis covers.2 (omega arith))

pub covers_along : (axes : List (List ℕ)) (xs ys : List (ℕ × ℕ)) → xs ≡ ys → Covers (whole_cell axes) ys → Covers (whole_cell axes) xs
covers_along axes xs ys same = subst (Covers (whole_cell axes)) (sym same)
