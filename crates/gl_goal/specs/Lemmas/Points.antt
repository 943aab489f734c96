-- What a tuple chooses, and the order in time of a cell of one tuple.
use Rattle.std.proofs.Common.{◌≡◌, ◌∙◌, sym, ap, refl, ℕ, zero, suc, ◌<◌, ◌⊎◌, inl, inr, List, [], ◌∷◌, length, get_or, arith}
use Rattle.std.proofs.lemmas.Bool.{cases_lt}
use Rattle.gl_box.specs.Cell.{point}
use Rattle.gl_box.specs.Halves.{span_at}
use Rattle.gl_goal.specs.Goal.{IsDisordered, IsInTimeOrder, IsTuple, chosen, fix_at}

pub length-tuple : (axes : List (List ℕ)) (tuple : List ℕ) → IsTuple axes tuple
    → length tuple ≡ length axes
length-tuple [] [] fits = refl
length-tuple [] (place ∷ places) fits = absurd fits
length-tuple (axis ∷ axes) [] fits = absurd fits
length-tuple (axis ∷ axes) (place ∷ places) fits = ap suc (length-tuple axes places fits.1)

pub length-chosen : (axes : List (List ℕ)) (tuple : List ℕ) → IsTuple axes tuple
    → length (chosen axes tuple) ≡ length axes
length-chosen [] [] fits = refl
length-chosen [] (place ∷ places) fits = absurd fits
length-chosen (axis ∷ axes) [] fits = absurd fits
length-chosen (axis ∷ axes) (place ∷ places) fits = ap suc (length-chosen axes places fits.1)

-- the fix that a tuple chooses on an axis
pub get_or-chosen : (axes : List (List ℕ)) (tuple : List ℕ) (k : ℕ) → IsTuple axes tuple
    → k < length axes → get_or (chosen axes tuple) k 0 ≡ fix_at axes k (get_or tuple k 0)
get_or-chosen [] tuple k fits below = absurd (omega arith)
get_or-chosen (axis ∷ axes) [] k fits below = absurd fits
get_or-chosen (axis ∷ axes) (place ∷ places) zero fits below = refl
get_or-chosen (axis ∷ axes) (place ∷ places) (suc k) fits below =
    get_or-chosen axes places k fits.1 (omega arith)

pub place_within : (axes : List (List ℕ)) (tuple : List ℕ) (k : ℕ) → IsTuple axes tuple
    → k < length axes → get_or tuple k 0 < length (get_or axes k [])
place_within [] tuple k fits below = absurd (omega arith)
place_within (axis ∷ axes) [] k fits below = absurd fits
place_within (axis ∷ axes) (place ∷ places) zero fits below = fits.0
place_within (axis ∷ axes) (place ∷ places) (suc k) fits below =
    place_within axes places k fits.1 (omega arith)

-- numbers are in time order, or a number is below the one before it
pub decide_order : (xs : List ℕ)
    → IsInTimeOrder xs ⊎ ((k : ℕ) × (suc k < length xs) × (get_or xs (suc k) 0 < get_or xs k 0))
decide_order [] = inl tt
decide_order (x ∷ []) = inl tt
decide_order (x ∷ y ∷ ys) = elim (cases_lt y x) [
  | inl below ↦ inr (0, omega arith, below)
  | inr order ↦ elim (decide_order (y ∷ ys)) [
    | inl rest ↦ inl (order, rest)
    | inr at ↦ inr (suc at.0, omega (arith, at.1), at.2)
  ]
]

pub span_at-point : (tuple : List ℕ) (k : ℕ) → k < length tuple
    → span_at (point tuple) k ≡ (get_or tuple k 0, get_or tuple k 0)
span_at-point [] k below = absurd (omega arith)
span_at-point (place ∷ places) zero below = refl
span_at-point (place ∷ places) (suc k) below = span_at-point places k (omega arith)

-- the cell of a tuple that isn't in time order is disordered
pub point_disordered : (axes : List (List ℕ)) (tuple : List ℕ) (k : ℕ) → IsTuple axes tuple
    → suc k < length (chosen axes tuple)
    → get_or (chosen axes tuple) (suc k) 0 < get_or (chosen axes tuple) k 0
    → IsDisordered axes (point tuple)
point_disordered axes tuple k fits below above =
    let size = length-chosen axes tuple fits in
    let long = length-tuple axes tuple fits in
    let next_in : suc k < length axes = omega (arith, size) in
    let here_in : k < length axes = omega arith in
    let here = get_or-chosen axes tuple k fits here_in
    ∙ ap (λ (s : ℕ × ℕ). fix_at axes k s.0)
    (sym (span_at-point tuple k (omega (arith, long)))) in
    let next = get_or-chosen axes tuple (suc k) fits next_in
    ∙ ap (λ (s : ℕ × ℕ). fix_at axes (suc k) s.1)
    (sym (span_at-point tuple (suc k) (omega (arith, long)))) in
    record {
      earlier = k;
      later = suc k;
      apart = omega arith;
      within = next_in;
      above = omega (arith, here, next, above);
    }

-- a tuple whose cell isn't disordered is in time order
pub point_in_order : (axes : List (List ℕ)) (tuple : List ℕ) → IsTuple axes tuple
    → (IsDisordered axes (point tuple) → ⊥) → IsInTimeOrder (chosen axes tuple)
point_in_order axes tuple fits ordered = elim (decide_order (chosen axes tuple)) [
  | inl order ↦ order
  | inr at ↦ absurd (ordered (point_disordered axes tuple at.0 fits at.1 at.2))
]
