-- Nodes lie in their cell, and halves are smaller.
use Rattle.std.proofs.Common.{◌≡◌, ◌∙◌, sym, ap, refl, subst, ℕ, zero, suc, ◌+◌, ◌-◌, ◌/◌, ◌<◌, ◌≤◌, Bool, true, false, cond, ◌⊎◌, inl, inr, List, [], ◌∷◌, length, get_or, slice_set, arith}
use Rattle.std.proofs.lemmas.Bool.{cases_lt}
use Rattle.std.proofs.lemmas.List.{get_or_append_left, get_or-append-add, get_or-append_right, length-append}
use Rattle.gl_box.specs.Cell.{Covers, Holds, holds, point}
use Rattle.gl_box.specs.Halves.{AreHalves, IsHalf, IsSingle, span_at, width}
use Rattle.gl_box.specs.Frontier.{IsFrontier, IsNode}
use Rattle.gl_box.specs.Frontier.IsFrontier.{alone, parted}
use Rattle.gl_box.specs.Frontier.IsNode.{whole, half}
use Rattle.gl_box.proofs.Held.{holds_parts, holds_whole}
use Rattle.gl_box.proofs.Parts.{halves_parted}

pub covers_self : (cell : List (ℕ × ℕ)) → Covers cell cell
covers_self [] = tt
covers_self (s ∷ ss) = (omega arith, omega arith, covers_self ss)

pub covers_through : (a b c : List (ℕ × ℕ)) → Covers a b → Covers b c → Covers a c
covers_through [] [] [] ab bc = tt
covers_through [] [] (z ∷ zs) ab bc = absurd bc
covers_through [] (y ∷ ys) c ab bc = absurd ab
covers_through (x ∷ xs) [] c ab bc = absurd ab
covers_through (x ∷ xs) (y ∷ ys) [] ab bc = absurd bc
covers_through (x ∷ xs) (y ∷ ys) (z ∷ zs) ab bc = (omega (arith, ab.0, bc.0), omega (arith, ab.1, bc.1), covers_through xs ys zs ab.2 bc.2)

-- what a cell holds, each cell that covers it holds
pub holds_through : (outer inner : List (ℕ × ℕ)) (tuple : List ℕ) → Covers outer inner → Holds inner tuple → Holds outer tuple
holds_through [] [] tuple covers held = held
holds_through [] (i ∷ is) tuple covers held = absurd covers
holds_through (o ∷ os) [] tuple covers held = absurd covers
holds_through (o ∷ os) (i ∷ is) [] covers held = absurd (cc)
holds_through (o ∷ os) (i ∷ is) (p ∷ ps) covers held =
    let parts = holds_parts i is p ps held in
    holds_whole o os p ps (omega (arith, covers.0, parts.0)) (omega (arith, covers.1, parts.1)) (holds_through os is ps covers.2 parts.2)

-- a cell covers itself with a narrower span
pub covers-set : (cell : List (ℕ × ℕ)) (axis : ℕ) (span : ℕ × ℕ) → (span_at cell axis).0 ≤ span.0 → span.1 ≤ (span_at cell axis).1 → Covers cell (slice_set cell axis span)
covers-set [] axis span low high = tt
covers-set (s ∷ ss) zero span low high = (low, high, covers_self ss)
covers-set (s ∷ ss) (suc axis) span low high = (omega arith, omega arith, covers-set ss axis span low high)

middle_low : (lo hi : ℕ) → 0 < hi - lo → lo ≤ (lo + hi) / 2
middle_low lo hi wide = omega arith

middle_high : (lo hi : ℕ) → 0 < hi - lo → (lo + hi) / 2 < hi
middle_high lo hi wide = omega arith

pub covers_lower : (cell lower upper : List (ℕ × ℕ)) → AreHalves cell lower upper → Covers cell lower
covers_lower cell lower upper halves =
    let span = span_at cell halves.axis in
    subst (Covers cell) (sym halves.lower_is) (covers-set cell halves.axis (span.0, (span.0 + span.1) / 2) (omega arith) (omega (arith, middle_high span.0 span.1 halves.wide)))

pub covers_upper : (cell lower upper : List (ℕ × ℕ)) → AreHalves cell lower upper → Covers cell upper
covers_upper cell lower upper halves =
    let span = span_at cell halves.axis in
    subst (Covers cell) (sym halves.upper_is) (covers-set cell halves.axis ((span.0 + span.1) / 2 + 1, span.1) (omega (arith, middle_low span.0 span.1 halves.wide)) (omega arith))

-- a cell covers each of its halves
pub covers_half : (cell part : List (ℕ × ℕ)) → IsHalf cell part → Covers cell part
covers_half cell part is_half = elim is_half.either [
  | inl low ↦ subst (Covers cell) (sym low) (covers_lower cell is_half.lower is_half.upper is_half.halves)
  | inr high ↦ subst (Covers cell) (sym high) (covers_upper cell is_half.lower is_half.upper is_half.halves)
]

-- a cell covers each of its nodes
pub covers_node : (cell node : List (ℕ × ℕ)) → IsNode cell node → Covers cell node
covers_node _ _ (whole cell) = covers_self cell
covers_node _ _ (half cell node part below is_half) = covers_through cell node part (covers_node cell node below) (covers_half node part is_half)

-- how far a cell's spans reach, all together
unfoldable pub spread : List (ℕ × ℕ) → ℕ
spread [] = 0
spread (span ∷ spans) = width span + spread spans

spread-set : (cell : List (ℕ × ℕ)) (axis : ℕ) (span : ℕ × ℕ) → axis < length cell → spread (slice_set cell axis span) + width (span_at cell axis) ≡ spread cell + width span
unfolding spread
spread-set [] axis span inside = absurd (omega arith)
spread-set (s ∷ ss) zero span inside = omega arith
spread-set (s ∷ ss) (suc axis) span inside = omega (arith, spread-set ss axis span (omega arith))

lower_less : (lo hi : ℕ) → 0 < hi - lo → (lo + hi) / 2 - lo < hi - lo
lower_less lo hi wide = omega arith

upper_less : (lo hi : ℕ) → 0 < hi - lo → hi - ((lo + hi) / 2 + 1) < hi - lo
upper_less lo hi wide = omega arith

-- each half reaches less far than its cell
pub spread-lower : (cell lower upper : List (ℕ × ℕ)) → AreHalves cell lower upper → spread lower < spread cell
spread-lower cell lower upper halves =
    let span = span_at cell halves.axis in
    let narrow = lower_less span.0 span.1 halves.wide in
    let after = spread-set cell halves.axis (span.0, (span.0 + span.1) / 2) halves.widest.inside in
    rw halves.lower_is (omega (arith, after, narrow))

pub spread-upper : (cell lower upper : List (ℕ × ℕ)) → AreHalves cell lower upper → spread upper < spread cell
spread-upper cell lower upper halves =
    let span = span_at cell halves.axis in
    let narrow = upper_less span.0 span.1 halves.wide in
    let after = spread-set cell halves.axis ((span.0 + span.1) / 2 + 1, span.1) halves.widest.inside in
    rw halves.upper_is (omega (arith, after, narrow))

-- a cell with single places is that of each tuple that it holds
pub single_is_point : (cell : List (ℕ × ℕ)) (tuple : List ℕ) → IsSingle cell → Holds cell tuple → cell ≡ point tuple
single_is_point [] [] single held = refl
single_is_point [] (p ∷ ps) single held = absurd (cc)
single_is_point (s ∷ ss) [] single held = absurd (cc)
single_is_point (s ∷ ss) (p ∷ ps) single held =
    let parts = holds_parts s ss p ps held in
    let here : s.0 ≡ s.1 = single 0 s (omega arith) in
    let low : s.0 ≡ p = omega (arith, parts.0, parts.1, here) in
    let high : s.1 ≡ p = omega (arith, parts.0, parts.1, here) in
    let first : s ≡ (p, p) = λ i. (low i, high i) in
    let rest = single_is_point ss ps (λ k d below. single (suc k) d (omega arith)) parts.2 in
    λ i. first i ∷ rest i

pub point_holds : (tuple : List ℕ) → Holds (point tuple) tuple
point_holds [] = refl
point_holds (p ∷ ps) = holds_whole (p, p) (point ps) p ps (omega arith) (omega arith) (point_holds ps)

one_of : (a b : Bool) → cond a 1 0 + cond b 1 0 ≡ 1 → (a ≡ true) ⊎ (b ≡ true)
one_of true b one = inl refl
one_of false true one = inr refl
one_of false false one = absurd (omega arith)

-- what a cell holds, one of its halves holds
pub half_holds : (cell lower upper : List (ℕ × ℕ)) (tuple : List ℕ) → AreHalves cell lower upper → Holds cell tuple → Holds lower tuple ⊎ Holds upper tuple
half_holds cell lower upper tuple halves held =
    one_of (holds lower tuple) (holds upper tuple) (halves_parted cell lower upper tuple halves ∙ ap (λ (b : Bool). cond b 1 0) held)

-- what a cell holds, some cell of its frontier holds
pub some_holds : (cell : List (ℕ × ℕ)) (cells : List (List (ℕ × ℕ))) (tuple : List ℕ) → IsFrontier cell cells → Holds cell tuple → (k : ℕ) × (k < length cells) × Holds (get_or cells k []) tuple
some_holds _ _ tuple (alone cell cells is) held =
    (0, omega (arith, ap length is), subst (λ (cs : List (List (ℕ × ℕ))). Holds (get_or cs 0 []) tuple) (sym is) held)
some_holds _ _ tuple (parted cell lower upper front back cells halves low high is) held =
    let P : List (List (ℕ × ℕ)) → Type 0 = λ cs. (k : ℕ) × (k < length cs) × Holds (get_or cs k []) tuple in
    subst P (sym is) (elim (half_holds cell lower upper tuple halves held) [
      | inl below ↦
          let at = some_holds lower front tuple low below in
          (at.0, omega (arith, at.1, length-append front back), subst (λ (c : List (ℕ × ℕ)). Holds c tuple) (sym (get_or_append_left front back [] at.0 at.1)) at.2)
      | inr above ↦
          let at = some_holds upper back tuple high above in
          (length front + at.0, omega (arith, at.1, length-append front back), subst (λ (c : List (ℕ × ℕ)). Holds c tuple) (sym (get_or-append-add front back at.0 [])) at.2)
    ])

-- a node of a node is a node
pub node_through : (cell node part : List (ℕ × ℕ)) → IsNode cell node → IsNode node part → IsNode cell part
node_through cell _ _ above (whole node) = above
node_through cell _ _ above (half node inner part below is_half) = half cell inner part (node_through cell node inner above below) is_half

-- each cell of a frontier is a node of its cell
pub member_node : (cell : List (ℕ × ℕ)) (cells : List (List (ℕ × ℕ))) (k : ℕ) → IsFrontier cell cells → k < length cells → IsNode cell (get_or cells k [])
member_node _ _ zero (alone cell cells is) below = subst (λ (cs : List (List (ℕ × ℕ))). IsNode cell (get_or cs 0 [])) (sym is) (whole cell)
member_node _ _ (suc k) (alone cell cells is) below = absurd (omega (arith, ap length is))
member_node _ _ k (parted cell lower upper front back cells halves low high is) below =
    let length_is : length cells ≡ length front + length back = ap length is ∙ length-append front back in
    subst (λ (cs : List (List (ℕ × ℕ))). IsNode cell (get_or cs k [])) (sym is) (elim (cases_lt k (length front)) [
      | inl first ↦
          let part : IsHalf cell lower = record { lower = lower; upper = upper; halves = halves; either = inl refl } in
          subst (IsNode cell) (sym (get_or_append_left front back [] k first)) (node_through cell lower _ (half cell cell lower (whole cell) part) (member_node lower front k low first))
      | inr later ↦
          let part : IsHalf cell upper = record { lower = lower; upper = upper; halves = halves; either = inr refl } in
          subst (IsNode cell) (sym (get_or-append_right front back (length front) k [] refl later))
          (node_through cell upper _ (half cell cell upper (whole cell) part) (member_node upper back (k - length front) high (omega (arith, length_is))))
    ])
