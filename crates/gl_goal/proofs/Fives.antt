-- Tuples and cells over five axes that have the same consecutive fix numbers.
use Rattle.std.proofs.Common.{◌≡◌, ◌∙◌, sym, ap, refl, ℕ, zero, suc, ◌+◌, ◌-◌, ◌<◌, ◌≤◌, List, [], ◌∷◌, length, take, map, get_or, arith}
use Rattle.std.proofs.lemmas.List.{get_or-take, length-take}
use Rattle.gl_box.specs.Cell.{Covers, ends, spans_of}
use Rattle.gl_box.specs.Tuple.{places_of}
use Rattle.gl_box.specs.Halves.{span_at}
use Rattle.gl_box.proofs.Held.{covers_at, length-covers}
use Rattle.gl_box.proofs.Spans.{get_or-places_of, length-places_of, length-spans_of, span_at-spans_of}
use Rattle.gl_box.specs.declared.cell.Cell.{Cell}
use Rattle.gl_box.specs.declared.span.Span.{Span}
use Rattle.gl_box.specs.declared.tuple.Tuple.{Tuple}
use Rattle.gl_goal.specs.Goal.{IsTuple, chosen, fix_at, whole_cell}
use Rattle.gl_goal.specs.Free.{five_axes, numbers_between}
use Rattle.gl_goal.specs.Lemmas.Free.{get_or-numbers_from, length-numbers_between}
use Rattle.gl_goal.proofs.Order.{length-whole, span_at-whole}
use Rattle.gl_goal.specs.Lemmas.Points.{length-tuple}

pub five_axis : (first last k : ℕ) → k < 5 → get_or (five_axes first last) k [] ≡ numbers_between first last
five_axis first last zero below = refl
five_axis first last (suc zero) below = refl
five_axis first last (suc (suc zero)) below = refl
five_axis first last (suc (suc (suc zero))) below = refl
five_axis first last (suc (suc (suc (suc zero)))) below = refl
five_axis first last (suc (suc (suc (suc (suc k))))) below = absurd (omega arith)

-- the number of the fix at a place of one of the five axes
pub five-fix_at : (first last k place : ℕ) → k < 5 → place < suc (last - first) → fix_at (five_axes first last) k place ≡ first + place
five-fix_at first last k place below inside =
    ap (λ (axis : List ℕ). get_or axis place 0) (five_axis first last k below) ∙ get_or-numbers_from first (suc (last - first)) place 0 inside

-- the fixes of five places, none past the last one
pub record AreFive (first last : ℕ) (tuple : List ℕ) : Type 0 where
  pub five : length tuple ≡ 5
  pub within : (k : ℕ) → k < 5 → first + get_or tuple k 0 ≤ last
  pub chosen : chosen (five_axes first last) tuple
      ≡ (first + get_or tuple 0 0) ∷ (first + get_or tuple 1 0) ∷ (first + get_or tuple 2 0) ∷ (first + get_or tuple 3 0) ∷ (first + get_or tuple 4 0) ∷ []

inside : (first last place : ℕ) → first ≤ last → place < length (numbers_between first last) → place < suc (last - first)
inside first last place order below = omega (arith, length-numbers_between first last)

five_within : (first last a b c d e : ℕ) → first + a ≤ last → first + b ≤ last → first + c ≤ last → first + d ≤ last → first + e ≤ last → (k : ℕ) → k < 5
    → first + get_or (a ∷ b ∷ c ∷ d ∷ e ∷ []) k 0 ≤ last
five_within first last a b c d e ha hb hc hd he zero below = ha
five_within first last a b c d e ha hb hc hd he (suc zero) below = hb
five_within first last a b c d e ha hb hc hd he (suc (suc zero)) below = hc
five_within first last a b c d e ha hb hc hd he (suc (suc (suc zero))) below = hd
five_within first last a b c d e ha hb hc hd he (suc (suc (suc (suc zero)))) below = he
five_within first last a b c d e ha hb hc hd he (suc (suc (suc (suc (suc k))))) below = absurd (omega arith)

pub five_places : (first last : ℕ) (tuple : List ℕ) → first ≤ last → IsTuple (five_axes first last) tuple → AreFive first last tuple
five_places first last [] order fits = absurd fits
five_places first last (a ∷ []) order fits = absurd fits.1
five_places first last (a ∷ b ∷ []) order fits = absurd fits.1.1
five_places first last (a ∷ b ∷ c ∷ []) order fits = absurd fits.1.1.1
five_places first last (a ∷ b ∷ c ∷ d ∷ []) order fits = absurd fits.1.1.1.1
five_places first last (a ∷ b ∷ c ∷ d ∷ e ∷ f ∷ tuple) order fits = absurd fits.1.1.1.1.1
five_places first last (a ∷ b ∷ c ∷ d ∷ e ∷ []) order fits =
    let count = suc (last - first) in
    let ha = inside first last a order fits.0 in
    let hb = inside first last b order fits.1.0 in
    let hc = inside first last c order fits.1.1.0 in
    let hd = inside first last d order fits.1.1.1.0 in
    let he = inside first last e order fits.1.1.1.1.0 in
    record {
      five = refl;
      within = five_within first last a b c d e (omega arith) (omega arith) (omega arith) (omega arith) (omega arith);
      chosen = λ i.
          get_or-numbers_from first count a 0 ha i ∷ get_or-numbers_from first count b 0 hb i ∷ get_or-numbers_from first count c 0 hc i
          ∷ get_or-numbers_from first count d 0 hd i ∷ get_or-numbers_from first count e 0 he i ∷ [];
    }

-- a place of a tuple over the five axes, as the code reads it
pub five-place : (first last : ℕ) (tuple : Tuple) (k : ℕ) → IsTuple (five_axes first last) (places_of tuple) → k < 5 → get_or (places_of tuple) k 0 ≡ get_or tuple.places k 0
five-place first last tuple k fits below =
    get_or-places_of tuple k (omega (arith, length-tuple (five_axes first last) (places_of tuple) fits, length-places_of tuple))

-- a cell in the whole has five spans
pub five-axes : (first last : ℕ) (cell : Cell) → Covers (whole_cell (five_axes first last)) (spans_of cell) → cell.axes ≡ 5
five-axes first last cell covers =
    omega (arith, length-covers (whole_cell (five_axes first last)) (spans_of cell) covers, length-whole (five_axes first last), length-spans_of cell)

pub five-span_at : (first last : ℕ) (cell : Cell) (k : ℕ) (d : Span) → Covers (whole_cell (five_axes first last)) (spans_of cell) → k < 5 → span_at (spans_of cell) k ≡ ends (get_or cell.spans k d)
five-span_at first last cell k d covers below = span_at-spans_of cell k d (omega (arith, five-axes first last cell covers))

-- each of its spans ends at a place
pub five-span_within : (first last : ℕ) (cell : Cell) (k : ℕ) → Covers (whole_cell (five_axes first last)) (spans_of cell) → k < 5 → (span_at (spans_of cell) k).1 ≤ last - first
five-span_within first last cell k covers below =
    let at = covers_at (whole_cell (five_axes first last)) (spans_of cell) k covers (omega (arith, length-whole (five_axes first last))) in
    let whole = span_at-whole (five_axes first last) k below in
    let size : length (get_or (five_axes first last) k []) ≡ suc (last - first) = ap length (five_axis first last k below) ∙ length-numbers_between first last in
    let top : (span_at (whole_cell (five_axes first last)) k).1 ≡ length (get_or (five_axes first last) k []) - 1 = ap (λ (span : ℕ × ℕ). span.1) whole in
    omega (arith, at.1, top, size)

pub five-hi_within : (first last : ℕ) (cell : Cell) (k : ℕ) (d : Span) → Covers (whole_cell (five_axes first last)) (spans_of cell) → k < 5 → (get_or cell.spans k d).hi ≤ last - first
five-hi_within first last cell k d covers below =
    let same : (span_at (spans_of cell) k).1 ≡ (get_or cell.spans k d).hi = ap (λ (s : ℕ × ℕ). s.1) (five-span_at first last cell k d covers below) in
    omega (arith, five-span_within first last cell k covers below, same)

take-five : {A : Type 0} (xs : List A) (a b c d e : A) → 5 ≤ length xs → take 5 xs ≡ get_or xs 0 a ∷ get_or xs 1 b ∷ get_or xs 2 c ∷ get_or xs 3 d ∷ get_or xs 4 e ∷ []
take-five [] a b c d e long = absurd (omega arith)
take-five (p ∷ []) a b c d e long = absurd (omega arith)
take-five (p ∷ q ∷ []) a b c d e long = absurd (omega arith)
take-five (p ∷ q ∷ r ∷ []) a b c d e long = absurd (omega arith)
take-five (p ∷ q ∷ r ∷ s ∷ []) a b c d e long = absurd (omega arith)
take-five (p ∷ q ∷ r ∷ s ∷ t ∷ xs) a b c d e long = refl

-- the spans of a cell, as the code reads them
pub five-spans : (first last : ℕ) (cell : Cell) (a b c d e : Span) → Covers (whole_cell (five_axes first last)) (spans_of cell)
    → spans_of cell ≡ ends (get_or cell.spans 0 a) ∷ ends (get_or cell.spans 1 b) ∷ ends (get_or cell.spans 2 c) ∷ ends (get_or cell.spans 3 d) ∷ ends (get_or cell.spans 4 e) ∷ []
five-spans first last cell a b c d e covers =
    ap (λ (n : ℕ). map ends (take n cell.spans)) (five-axes first last cell covers)
    ∙ ap (map ends) (take-five cell.spans a b c d e (omega (arith, cell.ten_spans)))

-- the numbers of the fixes of a tuple, as the code finds them
pub five-chosen : (first last : ℕ) (tuple : Tuple) → first ≤ last → IsTuple (five_axes first last) (places_of tuple)
    → chosen (five_axes first last) (places_of tuple) ≡ (first + get_or tuple.places 0 0) ∷ (first + get_or tuple.places 1 0) ∷ (first + get_or tuple.places 2 0) ∷ (first + get_or tuple.places 3 0)
    ∷ (first + get_or tuple.places 4 0) ∷ []
five-chosen first last tuple order fits =
    let at : (k : ℕ) → k < 5 → first + get_or (places_of tuple) k 0 ≡ first + get_or tuple.places k 0 = λ k below. ap (λ (n : ℕ). first + n) (five-place first last tuple k fits below) in
    (five_places first last (places_of tuple) order fits).chosen
    ∙ (λ i. at 0 (omega arith) i ∷ at 1 (omega arith) i ∷ at 2 (omega arith) i ∷ at 3 (omega arith) i ∷ at 4 (omega arith) i ∷ [])

pub five-number : (first last : ℕ) (tuple : Tuple) (k : ℕ) → first ≤ last → IsTuple (five_axes first last) (places_of tuple) → k < 5 → first + get_or tuple.places k 0 ≤ last
five-number first last tuple k order fits below =
    omega (arith, (five_places first last (places_of tuple) order fits).within k below, five-place first last tuple k fits below)

pub All-numbers : (a b c d e last : ℕ) → a ≤ last → b ≤ last → c ≤ last → d ≤ last → e ≤ last → (k other : ℕ) → k < 5 → get_or (a ∷ b ∷ c ∷ d ∷ e ∷ []) k other ≤ last
All-numbers a b c d e last ha hb hc hd he zero other below = ha
All-numbers a b c d e last ha hb hc hd he (suc zero) other below = hb
All-numbers a b c d e last ha hb hc hd he (suc (suc zero)) other below = hc
All-numbers a b c d e last ha hb hc hd he (suc (suc (suc zero))) other below = hd
All-numbers a b c d e last ha hb hc hd he (suc (suc (suc (suc zero)))) other below = he
All-numbers a b c d e last ha hb hc hd he (suc (suc (suc (suc (suc k))))) other below = absurd (omega arith)

-- a span that the code comes to among the first five
pub five-item : (first last : ℕ) (cell : Cell) (k : ℕ) (span : Span) → Covers (whole_cell (five_axes first last)) (spans_of cell) → k < 5 → span ≡ get_or (take 5 cell.spans) k span
    → span_at (spans_of cell) k ≡ ends span
five-item first last cell k span covers below is =
    five-span_at first last cell k span covers below ∙ ap ends (sym (get_or-take 5 cell.spans k span below) ∙ sym is)

-- each span begins at a place
pub five-lo_within : (first last : ℕ) (cell : Cell) (k : ℕ) → Covers (whole_cell (five_axes first last)) (spans_of cell) → k < 5 → (span_at (spans_of cell) k).0 ≤ last - first
five-lo_within first last cell k covers below =
    let none : Span = record { lo = 0; hi = 0; ordered = omega arith } in
    let span = get_or cell.spans k none in
    let at = five-span_at first last cell k none covers below in
    omega (arith, five-span_within first last cell k covers below, span.ordered, ap (λ (s : ℕ × ℕ). s.0) at, ap (λ (s : ℕ × ℕ). s.1) at)

pub length-five : (cell : Cell) → length (take 5 cell.spans) ≡ 5
length-five cell = omega (arith, length-take 5 cell.spans, cell.ten_spans)
