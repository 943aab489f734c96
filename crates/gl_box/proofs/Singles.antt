-- Each cell whose spans have places has a frontier of single tuples.
use Rattle.std.proofs.Common.{◌≡◌, sym, ap, refl, ℕ, zero, suc, ◌+◌, ◌-◌, ◌/◌, ◌<◌, ◌≤◌, inl, inr, List, [], ◌∷◌, ◌++◌, length, map, slice_set, subst, leb, arith}
use Rattle.std.proofs.lemmas.List.{length-set, map-append}
use Rattle.std.proofs.lemmas.Bool.{cond_both, cond-true, cases_lt, le-leb, leb-false, leb-true}
use Rattle.gl_box.specs.Cell.{point}
use Rattle.gl_box.specs.Halves.{AreHalves, IsWidest, span_at, widest_axis, width}
use Rattle.gl_box.specs.Frontier.{IsFrontier}
use Rattle.gl_box.specs.Frontier.IsFrontier.{alone, parted}
use Rattle.gl_box.proofs.Nodes.{spread, spread-lower, spread-upper}

-- each span has a place
unfoldable pub AreOrdered : List (ℕ × ℕ) → Type 0
AreOrdered [] = Unit {0}
AreOrdered (span ∷ spans) = (span.0 ≤ span.1) × AreOrdered spans

wider_first : (s : ℕ × ℕ) (rest : List (ℕ × ℕ)) (axis : ℕ) → IsWidest rest axis → width (span_at rest axis) ≤ width s → IsWidest (s ∷ rest) 0
wider_first s rest axis widest wide = record {
  inside = omega arith;
  widest = elim [ zero ↦ omega arith | suc other ↦ omega (arith, widest.widest other, wide) ];
  lowest = λ other below. absurd (omega arith);
}

wider_later : (s : ℕ × ℕ) (rest : List (ℕ × ℕ)) (axis : ℕ) → IsWidest rest axis → width s < width (span_at rest axis) → IsWidest (s ∷ rest) (suc axis)
wider_later s rest axis widest wide = record {
  inside = omega (arith, widest.inside);
  widest = elim [ zero ↦ omega arith | suc other ↦ widest.widest other ];
  lowest = elim [ zero ↦ λ below. wide | suc other ↦ λ below. widest.lowest other (omega arith) ];
}

-- an axis that is alone is the widest
lone_widest : (s : ℕ × ℕ) → IsWidest (s ∷ []) 0
lone_widest s = record {
  inside = omega arith;
  widest = elim [ zero ↦ omega arith | suc other ↦ omega arith ];
  lowest = λ other below. absurd (omega arith);
}

-- the axis of the widest span has it
pub widest_is : (s : ℕ × ℕ) (spans : List (ℕ × ℕ)) → IsWidest (s ∷ spans) (widest_axis (s ∷ spans))
widest_is s [] = subst (IsWidest (s ∷ [])) (sym (cond-true (leb 0 (width s)) 0 1 (le-leb 0 (width s) (omega arith)))) (lone_widest s)
widest_is s (next ∷ spans) =
    let rest = next ∷ spans in
    let axis = widest_axis rest in
    cond_both (leb (width (span_at rest axis)) (width s)) 0 (axis + 1) (IsWidest (s ∷ rest)) (λ wide. wider_first s rest axis (widest_is next spans) (leb-true _ _ wide))
    (λ narrow. subst (IsWidest (s ∷ rest)) (omega arith) (wider_later s rest axis (widest_is next spans) (leb-false _ _ narrow)))

pub ordered-set : (cell : List (ℕ × ℕ)) (axis : ℕ) (span : ℕ × ℕ) → AreOrdered cell → span.0 ≤ span.1 → AreOrdered (slice_set cell axis span)
unfolding AreOrdered
ordered-set [] axis span ordered here = tt
ordered-set (s ∷ ss) zero span ordered here = (here, ordered.1)
ordered-set (s ∷ ss) (suc axis) span ordered here = (ordered.0, ordered-set ss axis span ordered.1 here)

-- the ends of each span are in order
pub ordered_at : (cell : List (ℕ × ℕ)) (k : ℕ) → AreOrdered cell → (span_at cell k).0 ≤ (span_at cell k).1
unfolding AreOrdered
ordered_at [] k ordered = omega arith
ordered_at (s ∷ ss) zero ordered = ordered.0
ordered_at (s ∷ ss) (suc k) ordered = ordered_at ss k ordered.1

-- without width a cell is that of its only tuple
narrow_is_point : (cell : List (ℕ × ℕ)) → AreOrdered cell → spread cell ≡ 0 → cell ≡ point (map (λ span. span.0) cell)
unfolding AreOrdered spread
narrow_is_point [] ordered narrow = refl
narrow_is_point (s ∷ ss) ordered narrow =
    let high : s.1 ≡ s.0 = omega (arith, ordered.0) in
    let rest = narrow_is_point ss ordered.1 (omega arith) in
    λ i. (s.0, high i) ∷ rest i

no_spread : (cell : List (ℕ × ℕ)) → ((other : ℕ) → width (span_at cell other) ≤ 0) → spread cell ≡ 0
unfolding spread
no_spread [] narrow = refl
no_spread (s ∷ ss) narrow = omega (arith, narrow 0, no_spread ss (λ other. narrow (suc other)))

halves_of : (cell : List (ℕ × ℕ)) (axis : ℕ) → IsWidest cell axis → 0 < width (span_at cell axis)
    → AreHalves cell (slice_set cell axis ((span_at cell axis).0, ((span_at cell axis).0 + (span_at cell axis).1) / 2))
    (slice_set cell axis (((span_at cell axis).0 + (span_at cell axis).1) / 2 + 1, (span_at cell axis).1))
halves_of cell axis widest wide = record { axis = axis; widest = widest; wide = wide; lower_is = refl; upper_is = refl }

low_half : (lo hi : ℕ) → 0 < hi - lo → lo ≤ (lo + hi) / 2
low_half lo hi wide = omega arith

high_half : (lo hi : ℕ) → 0 < hi - lo → (lo + hi) / 2 + 1 ≤ hi
high_half lo hi wide = omega arith

pub singles_within : (most : ℕ) (cell : List (ℕ × ℕ)) → 0 < length cell → AreOrdered cell → spread cell ≤ most → (tuples : List (List ℕ)) × IsFrontier cell (map point tuples)
singles_within most [] some ordered within = absurd (omega arith)
singles_within zero (s ∷ ss) some ordered within =
    let cell = s ∷ ss in
    let same = narrow_is_point cell ordered (omega arith) in
    (map (λ span. span.0) cell ∷ [], alone cell _ (ap (λ (c : List (ℕ × ℕ)). c ∷ []) (sym same)))
singles_within (suc most) (s ∷ ss) some ordered within =
    let cell = s ∷ ss in
    let axis = widest_axis (s ∷ ss) in
    let widest = widest_is s ss in
    let span = span_at cell axis in
    elim (cases_lt 0 (width span)) [
      | inl wide ↦
          let lower = slice_set cell axis (span.0, (span.0 + span.1) / 2) in
          let upper = slice_set cell axis ((span.0 + span.1) / 2 + 1, span.1) in
          let halves = halves_of cell axis widest wide in
          let less = spread-lower cell lower upper halves in
          let lesser = spread-upper cell lower upper halves in
          let front = singles_within most lower (omega (arith, length-set cell axis (span.0, (span.0 + span.1) / 2)))
          (ordered-set cell axis (span.0, (span.0 + span.1) / 2) ordered (low_half span.0 span.1 wide)) (omega (arith, less, within)) in
          let back = singles_within most upper (omega (arith, length-set cell axis ((span.0 + span.1) / 2 + 1, span.1)))
          (ordered-set cell axis ((span.0 + span.1) / 2 + 1, span.1) ordered (high_half span.0 span.1 wide)) (omega (arith, lesser, within)) in
          (front.0 ++ back.0, parted cell lower upper (map point front.0) (map point back.0) (map point (front.0 ++ back.0)) halves front.1 back.1 (map-append point front.0 back.0))
      | inr narrow ↦
          let none = no_spread cell (λ other. omega (arith, widest.widest other, narrow)) in
          let same = narrow_is_point cell ordered none in
          (map (λ span. span.0) cell ∷ [], alone cell _ (ap (λ (c : List (ℕ × ℕ)). c ∷ []) (sym same)))
    ]
