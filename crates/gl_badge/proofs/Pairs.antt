-- Tuples and cells over two axes that have the numbers of all fixes.
use Rattle.std.proofs.Common.{◌≡◌, ◌∙◌, sym, ap, refl, subst, ℕ, zero, suc, ◌<◌, ◌≤◌, List, [], ◌∷◌, length, take, map, get_or, Some, slice_get, arith}
use Rattle.std.specs.List.{cons_option}
use Rattle.std.proofs.lemmas.List.{same_lists}
use Rattle.gl_box.specs.Cell.{Covers, ends, spans_of}
use Rattle.gl_box.specs.Tuple.{places_of}
use Rattle.gl_box.specs.Halves.{span_at}
use Rattle.gl_box.proofs.Held.{covers_at, length-covers}
use Rattle.gl_box.proofs.Spans.{get_or-places_of, length-places_of, length-spans_of, span_at-spans_of}
use Rattle.gl_box.specs.declared.cell.Cell.{Cell}
use Rattle.gl_box.specs.declared.span.Span.{Span}
use Rattle.gl_box.specs.declared.tuple.Tuple.{Tuple}
use Rattle.gl_igc.specs.declared.fix.Fix.{Fix}
use Rattle.gl_goal.specs.Box.{Box, fixes_in, hull_of}
use Rattle.gl_goal.specs.Goal.{IsDisordered, IsInTimeOrder, IsLegal, IsTuple, chosen, fix_at, value, whole_cell}
use Rattle.gl_goal.specs.Chain.{fixes_at, hulls_of}
use Rattle.gl_goal.specs.Free.{numbers_from}
use Rattle.gl_goal.specs.Lemmas.Chain.{get_or-fixes_at, length-fixes_at}
use Rattle.gl_goal.specs.Lemmas.Free.{get_or-numbers_from, length-numbers_from}
use Rattle.gl_goal.specs.Lemmas.Points.{length-tuple}
use Rattle.gl_goal.proofs.Order.{length-whole, span_at-whole}
use Rattle.gl_goal.proofs.FreeLosses.{filter_map-found}
use Rattle.gl_badge.specs.Gain.{gain_goal, gain_over, greatest_gain, rise, two_axes}
use Rattle.gl_badge.specs.Lemmas.Gain.{all-named}

-- the number at a place of the numbers of all fixes
number_at : (count place d : ℕ) → place < count → get_or (numbers_from 0 count) place d ≡ place
number_at count place d inside = omega (arith, get_or-numbers_from 0 count place d inside)

-- the fixes with the numbers of all fixes are these fixes
pub fixes_at-all : (fixes : List Fix) → fixes_at fixes (numbers_from 0 (length fixes)) ≡ fixes
fixes_at-all fixes =
    let all = numbers_from 0 (length fixes) in
    let every = all-named fixes in
    let size : length (fixes_at fixes all) ≡ length fixes = length-fixes_at fixes all every ∙ length-numbers_from 0 (length fixes) in
    same_lists (fixes_at fixes all) fixes size
    (λ k d below. get_or-fixes_at fixes all k d every (omega (arith, size, length-numbers_from 0 (length fixes)))
    ∙ ap (λ (n : ℕ). get_or fixes n d) (number_at (length fixes) k 0 (omega (arith, size))))

pub two_axis : (count k : ℕ) → k < 2 → get_or (two_axes count) k [] ≡ numbers_from 0 count
two_axis count zero below = refl
two_axis count (suc zero) below = refl
two_axis count (suc (suc k)) below = absurd (omega arith)

pub two-length : (count k : ℕ) → k < 2 → length (get_or (two_axes count) k []) ≡ count
two-length count k below = ap length (two_axis count k below) ∙ length-numbers_from 0 count

-- the number of the fix at a place of one of the two axes
pub two-fix_at : (count k place : ℕ) → k < 2 → place < count → fix_at (two_axes count) k place ≡ place
two-fix_at count k place below inside =
    ap (λ (axis : List ℕ). get_or axis place 0) (two_axis count k below) ∙ number_at count place 0 inside

-- the fixes of two places
pub record AreTwo (count : ℕ) (tuple : List ℕ) (from to : ℕ) : Type 0 where
  pub from_in : from < count
  pub to_in : to < count
  pub chosen : chosen (two_axes count) tuple ≡ from ∷ to ∷ []

pub two_places : (count : ℕ) (tuple : List ℕ) → IsTuple (two_axes count) tuple → AreTwo count tuple (get_or tuple 0 0) (get_or tuple 1 0)
two_places count [] fits = absurd fits
two_places count (a ∷ []) fits = absurd fits.1
two_places count (a ∷ b ∷ c ∷ tuple) fits = absurd fits.1.1
two_places count (a ∷ b ∷ []) fits =
    let from : a < count = omega (arith, fits.0, length-numbers_from 0 count) in
    let to : b < count = omega (arith, fits.1.0, length-numbers_from 0 count) in
    record {
      from_in = from;
      to_in = to;
      chosen = λ i. number_at count a 0 from i ∷ number_at count b 0 to i ∷ [];
    }

-- a place of a tuple over the two axes, as the code reads it
two-place : (count : ℕ) (tuple : Tuple) (k : ℕ) → IsTuple (two_axes count) (places_of tuple) → k < 2 → get_or (places_of tuple) k 0 ≡ get_or tuple.places k 0
two-place count tuple k fits below =
    get_or-places_of tuple k (omega (arith, length-tuple (two_axes count) (places_of tuple) fits, length-places_of tuple))

-- the two places of a tuple, as the code reads them
pub two_chosen : (count : ℕ) (tuple : Tuple) → IsTuple (two_axes count) (places_of tuple) → AreTwo count (places_of tuple) (get_or tuple.places 0 0) (get_or tuple.places 1 0)
two_chosen count tuple fits =
    let two = two_places count (places_of tuple) fits in
    let from = two-place count tuple 0 fits (omega arith) in
    let to = two-place count tuple 1 fits (omega arith) in
    record {
      from_in = omega (arith, two.from_in, from);
      to_in = omega (arith, two.to_in, to);
      chosen = two.chosen ∙ (λ i. from i ∷ to i ∷ []);
    }

-- what a tuple of two fixes is worth
pub two-worth : (fixes : List Fix) (tuple : List ℕ) (from to : ℕ) (a b : Fix) → AreTwo (length fixes) tuple from to → slice_get fixes from ≡ Some a → slice_get fixes to ≡ Some b
    → value (gain_goal fixes) tuple ≡ rise a.alt b.alt
unfolding gain_goal
two-worth fixes tuple from to a b two a_is b_is =
    let both : fixes_at fixes (from ∷ to ∷ []) ≡ a ∷ b ∷ [] = λ i. cons_option (a_is i) (cons_option (b_is i) []) in
    ap (λ (numbers : List ℕ). gain_over (fixes_at fixes numbers)) two.chosen ∙ ap gain_over both

-- a cell in the whole has two spans
two-axes : (count : ℕ) (cell : Cell) → Covers (whole_cell (two_axes count)) (spans_of cell) → cell.axes ≡ 2
two-axes count cell covers =
    omega (arith, length-covers (whole_cell (two_axes count)) (spans_of cell) covers, length-whole (two_axes count), length-spans_of cell)

pub two-span_at : (count : ℕ) (cell : Cell) (k : ℕ) (d : Span) → Covers (whole_cell (two_axes count)) (spans_of cell) → k < 2 → span_at (spans_of cell) k ≡ ends (get_or cell.spans k d)
two-span_at count cell k d covers below = span_at-spans_of cell k d (omega (arith, two-axes count cell covers))

-- each of its spans ends at a place
pub two-hi_within : (count : ℕ) (cell : Cell) (k : ℕ) (d : Span) → 1 ≤ count → Covers (whole_cell (two_axes count)) (spans_of cell) → k < 2 → (get_or cell.spans k d).hi < count
two-hi_within count cell k d some covers below =
    let at = covers_at (whole_cell (two_axes count)) (spans_of cell) k covers (omega (arith, length-whole (two_axes count))) in
    let whole = ap (λ (span : ℕ × ℕ). span.1) (span_at-whole (two_axes count) k below) in
    let same : (span_at (spans_of cell) k).1 ≡ (get_or cell.spans k d).hi = ap (λ (s : ℕ × ℕ). s.1) (two-span_at count cell k d covers below) in
    omega (arith, at.1, whole, two-length count k below, same)

take-two : {A : Type 0} (xs : List A) (a b : A) → 2 ≤ length xs → take 2 xs ≡ get_or xs 0 a ∷ get_or xs 1 b ∷ []
take-two [] a b long = absurd (omega arith)
take-two (p ∷ []) a b long = absurd (omega arith)
take-two (p ∷ q ∷ xs) a b long = refl

-- the spans of a cell, as the code reads them
two-spans : (count : ℕ) (cell : Cell) (a b : Span) → Covers (whole_cell (two_axes count)) (spans_of cell) → spans_of cell ≡ ends (get_or cell.spans 0 a) ∷ ends (get_or cell.spans 1 b) ∷ []
two-spans count cell a b covers =
    ap (λ (n : ℕ). map ends (take n cell.spans)) (two-axes count cell covers)
    ∙ ap (map ends) (take-two cell.spans a b (omega (arith, cell.ten_spans)))

-- the bound of a cell, by the hulls of its two spans
pub two-bound : (fixes : List Fix) (cell : Cell) (a b : Span) (p q : Box) → Covers (whole_cell (two_axes (length fixes))) (spans_of cell) → p ≡ hull_of (fixes_in fixes (ends (get_or cell.spans 0 a)))
    → q ≡ hull_of (fixes_in fixes (ends (get_or cell.spans 1 b))) → rise p.alt.0 q.alt.1 ≡ greatest_gain (hulls_of fixes (two_axes (length fixes)) (spans_of cell))
two-bound fixes cell a b p q covers p_is q_is =
    let over : (span : Span) (box : Box) → box ≡ hull_of (fixes_in fixes (ends span)) → box ≡ hull_of (fixes_in (fixes_at fixes (numbers_from 0 (length fixes))) (ends span)) = λ span box is. is
    ∙ ap (λ (fs : List Fix). hull_of (fixes_in fs (ends span))) (sym (fixes_at-all fixes)) in
    let boxes : p ∷ q ∷ [] ≡ hulls_of fixes (two_axes (length fixes)) (ends (get_or cell.spans 0 a) ∷ ends (get_or cell.spans 1 b) ∷ []) =
    λ i. over (get_or cell.spans 0 a) p p_is i ∷ over (get_or cell.spans 1 b) q q_is i ∷ [] in
    ap greatest_gain (boxes ∙ sym (ap (hulls_of fixes (two_axes (length fixes))) (two-spans (length fixes) cell a b covers)))

-- a cell whose second span ends before its first one begins is disordered, and no other
pub two-disordered : (count : ℕ) (cell : Cell) (a b : Span) → 1 ≤ count → Covers (whole_cell (two_axes count)) (spans_of cell) → (get_or cell.spans 1 b).hi < (get_or cell.spans 0 a).lo
    → IsDisordered (two_axes count) (spans_of cell)
two-disordered count cell a b some covers before =
    let low = ap (λ (s : ℕ × ℕ). s.0) (two-span_at count cell 0 a covers (omega arith)) in
    let high = ap (λ (s : ℕ × ℕ). s.1) (two-span_at count cell 1 b covers (omega arith)) in
    let first = get_or cell.spans 0 a in
    let first_in = two-hi_within count cell 0 a some covers (omega arith) in
    let second_in = two-hi_within count cell 1 b some covers (omega arith) in
    record {
      earlier = 0;
      later = 1;
      apart = omega arith;
      within = omega arith;
      above = omega (
        arith,
        before,
        low,
        high,
        two-fix_at count 0 (span_at (spans_of cell) 0).0 (omega arith) (omega (arith, low, first.ordered, first_in)),
        two-fix_at count 1 (span_at (spans_of cell) 1).1 (omega arith) (omega (arith, high, second_in)),
      );
    }

pub two-in_order : (count : ℕ) (cell : Cell) (a b : Span) → 1 ≤ count → Covers (whole_cell (two_axes count)) (spans_of cell) → IsDisordered (two_axes count) (spans_of cell)
    → (get_or cell.spans 1 b).hi < (get_or cell.spans 0 a).lo
two-in_order count cell a b some covers disordered =
    let low = ap (λ (s : ℕ × ℕ). s.0) (two-span_at count cell 0 a covers (omega arith)) in
    let high = ap (λ (s : ℕ × ℕ). s.1) (two-span_at count cell 1 b covers (omega arith)) in
    let first = get_or cell.spans 0 a in
    let first_in = two-hi_within count cell 0 a some covers (omega arith) in
    let second_in = two-hi_within count cell 1 b some covers (omega arith) in
    let below : disordered.later < 2 = disordered.within in
    let later : disordered.later ≡ 1 = omega (arith, disordered.apart, below) in
    let earlier : disordered.earlier ≡ 0 = omega (arith, disordered.apart, below) in
    let above : fix_at (two_axes count) 1 (span_at (spans_of cell) 1).1 < fix_at (two_axes count) 0 (span_at (spans_of cell) 0).0 =
    subst (λ (k : ℕ). fix_at (two_axes count) k (span_at (spans_of cell) k).1 < fix_at (two_axes count) 0 (span_at (spans_of cell) 0).0) later
    (subst (λ (k : ℕ). fix_at (two_axes count) disordered.later (span_at (spans_of cell) disordered.later).1 < fix_at (two_axes count) k (span_at (spans_of cell) k).0) earlier disordered.above) in
    omega (
      arith,
      above,
      low,
      high,
      two-fix_at count 0 (span_at (spans_of cell) 0).0 (omega arith) (omega (arith, low, first.ordered, first_in)),
      two-fix_at count 1 (span_at (spans_of cell) 1).1 (omega arith) (omega (arith, high, second_in)),
    )

-- a tuple is legal exactly where its first fix isn't the later one
pub two-legal : (fixes : List Fix) (tuple : List ℕ) (from to : ℕ) → IsTuple (two_axes (length fixes)) tuple → AreTwo (length fixes) tuple from to
    → (from ≤ to → IsLegal (gain_goal fixes) tuple) × (IsLegal (gain_goal fixes) tuple → from ≤ to)
unfolding gain_goal
two-legal fixes tuple from to fits two = (
  λ order. record { is_tuple = fits; in_order = subst IsInTimeOrder (sym two.chosen) (order, tt); allowed = refl },
  λ legal. (subst IsInTimeOrder two.chosen legal.in_order).0,
)

-- staying at the first fix is legal
pub stay_legal : (fixes : List Fix) → 1 ≤ length fixes → IsLegal (gain_goal fixes) (0 ∷ 0 ∷ [])
unfolding gain_goal
stay_legal fixes some =
    let inside : 0 < length (numbers_from 0 (length fixes)) = omega (arith, length-numbers_from 0 (length fixes)) in
    record { is_tuple = (inside, (inside, tt)); in_order = (omega arith, tt); allowed = refl }

-- what was picked by the numbers of all fixes is these fixes
pub picked-all : (fixes picked : List Fix) (numbers : List ℕ) (count : ℕ) → map Some picked ≡ map (slice_get fixes) numbers → numbers ≡ numbers_from 0 count → count ≡ length fixes → picked ≡ fixes
picked-all fixes picked numbers count found are all =
    filter_map-found (slice_get fixes) numbers picked found ∙ ap (fixes_at fixes) (are ∙ ap (numbers_from 0) all) ∙ fixes_at-all fixes
