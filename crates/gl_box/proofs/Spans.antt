-- The spans of a cell and the places of a tuple, read and written axis by axis.
use Rattle.std.proofs.Common.{◌≡◌, ◌≢◌, ◌∙◌, sym, ap, refl, ℕ, zero, suc, ◌+◌, ◌-◌, ◌/◌, ◌<◌, ◌≤◌, List, [], ◌∷◌, length, take, map, get_or, slice_set, arith, below_more}
use Rattle.std.proofs.lemmas.List.{get_or-map, get_or-take, get_or_default, get_or-set_same, get_or-set_other, length-map, length-take-le, map-set, same_lists}
use Rattle.gl_box.specs.declared.span.Span.{Span}
use Rattle.gl_box.specs.declared.cell.Cell.{Cell}
use Rattle.gl_box.specs.declared.tuple.Tuple.{Tuple}
use Rattle.gl_box.specs.Tuple.{places_of}
use Rattle.gl_box.specs.Cell.{ends, point, spans_of}
use Rattle.gl_box.specs.Halves.{AreHalves, IsSingle, IsWidest, span_at, width}

pub take-set : {A : Type 0} (n : ℕ) (xs : List A) (i : ℕ) (x : A) → take n (slice_set xs i x) ≡ slice_set (take n xs) i x
take-set zero xs i x = refl
take-set (suc n) [] i x = refl
take-set (suc n) (y ∷ xs) zero x = refl
take-set (suc n) (y ∷ xs) (suc i) x = ap (λ zs. y ∷ zs) (take-set n xs i x)

-- the spans after one is replaced
pub spans-set : (axes : ℕ) (spans : List Span) (axis : ℕ) (span : Span) → map ends (take axes (slice_set spans axis span)) ≡ slice_set (map ends (take axes spans)) axis (ends span)
spans-set axes spans axis span = ap (map ends) (take-set axes spans axis span) ∙ map-set ends (take axes spans) axis span

-- a span that is read is the one of that axis
pub span_at-read : (axes : ℕ) (spans : List Span) (axis : ℕ) (span : Span) → axis < axes → axes ≤ length spans → span_at (map ends (take axes spans)) axis ≡ ends (get_or spans axis span)
span_at-read axes spans axis span below room =
    let inside : axis < length (take axes spans) = omega (arith, length-take-le axes spans room) in
    get_or-map ends (take axes spans) axis span (0, 0) inside ∙ ap ends (get_or-take axes spans axis span below)

pub length-spans : (axes : ℕ) (spans : List Span) → axes ≤ length spans → length (map ends (take axes spans)) ≡ axes
length-spans axes spans room = length-map (take axes spans) ends ∙ length-take-le axes spans room

-- a read of the spans, after one of them was written
span_at-set_same : (xs : List (ℕ × ℕ)) (axis : ℕ) (span : ℕ × ℕ) → axis < length xs → span_at (slice_set xs axis span) axis ≡ span
span_at-set_same xs axis span inside = get_or-set_same xs axis span (0, 0) inside

-- the axes so far have the spans of their places, and one more
pub point-more : (xs ys : List (ℕ × ℕ)) (places : List ℕ) (axis : ℕ) (span : Span) → ys ≡ slice_set xs axis (ends span) → axis < length xs → span.lo ≡ get_or places axis 0
    → span.hi ≡ get_or places axis 0 → ((k : ℕ) → k < axis → span_at xs k ≡ (get_or places k 0, get_or places k 0)) → (k : ℕ) → k < axis + 1 → span_at ys k ≡ (get_or places k 0, get_or places k 0)
point-more xs ys places axis span is inside lo hi before =
    below_more _ axis
    (λ k less. let other : k ≢ axis = omega arith in ap (λ (zs : List (ℕ × ℕ)). span_at zs k) is ∙ get_or-set_other xs axis k (ends span) (0, 0) other ∙ before k less)
    (ap (λ (zs : List (ℕ × ℕ)). span_at zs axis) is ∙ span_at-set_same xs axis (ends span) inside ∙ (λ i. (lo i, hi i)))

-- the cell of a single tuple, when each axis has the span of its place
pub point-all : (cell : Cell) (tuple : Tuple) (axis : ℕ) → cell.axes ≡ tuple.axes → tuple.axes ≤ axis
    → ((k : ℕ) → k < axis → span_at (spans_of cell) k ≡ (get_or tuple.places k 0, get_or tuple.places k 0)) → spans_of cell ≡ point (places_of tuple)
point-all cell tuple axis axes all each =
    let long = length-spans cell.axes cell.spans (omega (arith, cell.ten_axes, cell.ten_spans)) in
    let short : length (point (places_of tuple)) ≡ tuple.axes = length-map {B = ℕ × ℕ} (places_of tuple) (λ (place : ℕ). (place, place))
    ∙ length-take-le tuple.axes tuple.places (omega (arith, tuple.ten_axes, tuple.ten_places)) in
    same_lists (spans_of cell) (point (places_of tuple)) (long ∙ axes ∙ sym short)
    (λ k d below.
    let inside : k < tuple.axes = omega arith in
    let placed : k < length (places_of tuple) = omega (arith, length-map {B = ℕ × ℕ} (places_of tuple) (λ (place : ℕ). (place, place)), short) in
    get_or_default (spans_of cell) k d (0, 0) below ∙ each k (omega arith)
    ∙ ap {B = ℕ × ℕ} (λ (place : ℕ). (place, place)) (sym (get_or-take tuple.axes tuple.places k 0 inside))
    ∙ sym (get_or-map {Y = ℕ × ℕ} (λ (place : ℕ). (place, place)) (places_of tuple) k 0 d placed))

-- the widest of the spans so far, after one more was looked at
pub widest-more : (f : ℕ → ℕ) (best axis : ℕ) → f axis ≤ f best → ((other : ℕ) → other < axis → f other ≤ f best) → (other : ℕ) → other < axis + 1 → f other ≤ f best
widest-more f best axis here before = below_more (λ other. f other ≤ f best) axis before here

pub widest-next : (f : ℕ → ℕ) (best axis : ℕ) → f best < f axis → ((other : ℕ) → other < axis → f other ≤ f best) → (other : ℕ) → other < axis → f other < f axis
widest-next f best axis wider before other below = omega (arith, before other below)

pub widest-next_or_same : (f : ℕ → ℕ) (best axis : ℕ) → f best < f axis → ((other : ℕ) → other < axis → f other ≤ f best) → (other : ℕ) → other < axis + 1 → f other ≤ f axis
widest-next_or_same f best axis wider before = below_more (λ other. f other ≤ f axis) axis (λ other below. omega (arith, before other below)) (omega arith)

-- where the widest span has a single place, each has
pub single-from_widest : (axes : ℕ) (spans : List Span) (axis : ℕ) (some : Span) → width (span_at (map ends (take axes spans)) axis) ≡ 0 → IsWidest (map ends (take axes spans)) axis
    → IsSingle (map ends (take axes spans))
single-from_widest axes spans axis some narrow widest k d below =
    let there : k < length (take axes spans) = omega (arith, below, length-map (take axes spans) ends) in
    let read : get_or (map ends (take axes spans)) k d ≡ ends (get_or (take axes spans) k some) = get_or-map ends (take axes spans) k some d there in
    let same = get_or_default (map ends (take axes spans)) k d (0, 0) below in
    let low : width (get_or (map ends (take axes spans)) k d) ≤ 0 = rw same (omega (arith, widest.widest k, narrow)) in
    let span = get_or (take axes spans) k some in
    let order = span.ordered in
    let both : span.lo ≡ span.hi = omega (arith, order, rw read at low) in
    ap (λ (s : ℕ × ℕ). s.0) read ∙ both ∙ sym (ap (λ (s : ℕ × ℕ). s.1) read)

-- a cell of single places has no wide span
pub single-narrow : (cell : List (ℕ × ℕ)) (axis : ℕ) → IsSingle cell → axis < length cell → (span_at cell axis).0 ≡ (span_at cell axis).1
single-narrow cell axis single inside = single axis (0, 0) inside

-- what is cut in the middle of its widest span
pub halves_made : (cell lower upper : List (ℕ × ℕ)) (axis : ℕ) (span : ℕ × ℕ) (middle : ℕ) → IsWidest cell axis → span_at cell axis ≡ span → span.0 < span.1 → middle ≡ span.0 + (span.1 - span.0) / 2
    → lower ≡ slice_set cell axis (span.0, middle) → upper ≡ slice_set cell axis (middle + 1, span.1) → AreHalves cell lower upper
halves_made cell lower upper axis span middle widest is wide half low high =
    let a : (span_at cell axis).0 ≡ span.0 = ap (λ (s : ℕ × ℕ). s.0) is in
    let b : (span_at cell axis).1 ≡ span.1 = ap (λ (s : ℕ × ℕ). s.1) is in
    let mid : middle ≡ ((span_at cell axis).0 + (span_at cell axis).1) / 2 = omega arith in
    record {
      axis = axis;
      widest = widest;
      wide = omega arith;
      lower_is = low ∙ ap (λ (s : ℕ × ℕ). slice_set cell axis s) (λ i. (sym a i, mid i));
      upper_is = high ∙ ap (λ (s : ℕ × ℕ). slice_set cell axis s) (λ i. (mid i + 1, sym b i));
    }

pub length-spans_of : (cell : Cell) → length (spans_of cell) ≡ cell.axes
length-spans_of cell = length-spans cell.axes cell.spans (omega (arith, cell.ten_axes, cell.ten_spans))

pub span_at-spans_of : (cell : Cell) (axis : ℕ) (some : Span) → axis < cell.axes → span_at (spans_of cell) axis ≡ ends (get_or cell.spans axis some)
span_at-spans_of cell axis some inside = span_at-read cell.axes cell.spans axis some inside (omega (arith, cell.ten_axes, cell.ten_spans))

pub length-places_of : (tuple : Tuple) → length (places_of tuple) ≡ tuple.axes
length-places_of tuple = length-take-le tuple.axes tuple.places (omega (arith, tuple.ten_axes, tuple.ten_places))

pub get_or-places_of : (tuple : Tuple) (axis : ℕ) → axis < tuple.axes → get_or (places_of tuple) axis 0 ≡ get_or tuple.places axis 0
get_or-places_of tuple axis inside = get_or-take tuple.axes tuple.places axis 0 inside

-- an order, whichever equal numbers it is named by
pub order_along : (a b m n : ℕ) → a ≡ m → b ≡ n → m ≤ n → a ≤ b
order_along a b m n am bn order = omega arith

pub against : (a b m n : ℕ) → a ≡ m → b ≡ n → a ≤ b → n < m → ⊥
against a b m n am bn order above = omega arith
