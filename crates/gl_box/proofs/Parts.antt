-- Halves part the tuples of a cell, and so do the cells of a frontier.
use Rattle.std.proofs.Common.{◌≡◌, ◌∙◌, ap, refl, ℕ, zero, suc, ◌+◌, ◌/◌, ◌<◌, ◌≤◌, Bool, true, false, cond, ◌&&◌, List, [], ◌∷◌, ◌++◌, length, slice_set, arith}
use Rattle.std.specs.Prelude.{nat_le}
use Rattle.std.proofs.lemmas.Bool.Decides.{nat_tests}
use Rattle.std.proofs.lemmas.List.Sums.{sum_by-append}
use Rattle.gl_box.specs.Cell.{Holds, holds}
use Rattle.gl_box.specs.Halves.{AreHalves, span_at}
use Rattle.gl_box.specs.Frontier.{IsFrontier, mult}
use Rattle.gl_box.specs.Frontier.IsFrontier.{alone, parted}

-- a tuple whose first place lies outside is held by none
apart : (b : Bool) (x y z : Bool) → cond x 1 0 + cond y 1 0 ≡ cond z 1 0 → cond (b && x) 1 0 + cond (b && y) 1 0 ≡ cond (b && z) 1 0
apart true x y z same = same
apart false x y z same = refl

first_parted : (lo middle hi place : ℕ) (rest : Bool) → lo ≤ middle → middle < hi
    → cond (nat_le lo place && nat_le place middle && rest) 1 0 + cond (nat_le (middle + 1) place && nat_le place hi && rest) 1 0 ≡ cond (nat_le lo place && nat_le place hi && rest) 1 0
first_parted lo middle hi place true low high = grind (arith, nat_tests)
first_parted lo middle hi place false low high = grind (arith, nat_tests)

-- a cell that is cut on an axis parts its tuples
cut_parts : (cell : List (ℕ × ℕ)) (axis middle : ℕ) (tuple : List ℕ) → axis < length cell → (span_at cell axis).0 ≤ middle → middle < (span_at cell axis).1
    → cond (holds (slice_set cell axis ((span_at cell axis).0, middle)) tuple) 1 0 + cond (holds (slice_set cell axis (middle + 1, (span_at cell axis).1)) tuple) 1 0 ≡ cond (holds cell tuple) 1 0
cut_parts [] axis middle tuple inside low high = absurd (omega arith)
cut_parts (s ∷ ss) zero middle [] inside low high = refl
cut_parts (s ∷ ss) zero middle (p ∷ ps) inside low high = first_parted s.0 middle s.1 p (holds ss ps) low high
cut_parts (s ∷ ss) (suc axis) middle [] inside low high = refl
cut_parts (s ∷ ss) (suc axis) middle (p ∷ ps) inside low high = apart (nat_le s.0 p && nat_le p s.1) _ _ _ (cut_parts ss axis middle ps (omega arith) low high)

pub mult-append : (xs ys : List (List (ℕ × ℕ))) (tuple : List ℕ) → mult (xs ++ ys) tuple ≡ mult xs tuple + mult ys tuple
mult-append xs ys tuple = sum_by-append (λ (cell : List (ℕ × ℕ)). cond (holds cell tuple) 1 0) xs ys

pub halves_parted : (cell lower upper : List (ℕ × ℕ)) (tuple : List ℕ) → AreHalves cell lower upper → cond (holds lower tuple) 1 0 + cond (holds upper tuple) 1 0 ≡ cond (holds cell tuple) 1 0
halves_parted cell lower upper tuple halves =
    let lo = (span_at cell halves.axis).0 in
    let hi = (span_at cell halves.axis).1 in
    let middle = (lo + hi) / 2 in
    let wide : lo < hi = omega (arith, halves.wide) in
    let low : lo ≤ middle = omega arith in
    let high : middle < hi = omega arith in
    rw (halves.lower_is, halves.upper_is) (cut_parts cell halves.axis middle tuple halves.widest.inside low high)

-- the two halves hold a tuple as often as the cell
pub mult-halves : (cell lower upper : List (ℕ × ℕ)) (tuple : List ℕ) → AreHalves cell lower upper → mult (lower ∷ []) tuple + mult (upper ∷ []) tuple ≡ mult (cell ∷ []) tuple
mult-halves cell lower upper tuple halves = omega (arith, halves_parted cell lower upper tuple halves)

-- a frontier holds each tuple as often as its cell
pub mult-frontier : (cell : List (ℕ × ℕ)) (cells : List (List (ℕ × ℕ))) (tuple : List ℕ) → IsFrontier cell cells → mult cells tuple ≡ mult (cell ∷ []) tuple
mult-frontier _ _ tuple (alone cell cells is) = ap (λ (these : List (List (ℕ × ℕ))). mult these tuple) is
mult-frontier _ _ tuple (parted cell lower upper front back cells halves low high is) =
    let a = mult-frontier lower front tuple low in
    let b = mult-frontier upper back tuple high in
    let c = mult-append front back tuple in
    let d = mult-halves cell lower upper tuple halves in
    let whole : mult (front ++ back) tuple ≡ mult (cell ∷ []) tuple = omega (arith, a, b, c, d) in
    ap (λ (these : List (List (ℕ × ℕ))). mult these tuple) is ∙ whole

-- in a frontier of a cell each of its tuples has multiplicity 1
pub mult-held : (cell : List (ℕ × ℕ)) (cells : List (List (ℕ × ℕ))) (tuple : List ℕ) → IsFrontier cell cells → Holds cell tuple → mult cells tuple ≡ 1
mult-held cell cells tuple frontier held = mult-frontier cell cells tuple frontier ∙ ap (λ (b : Bool). 0 + cond b 1 0) held
