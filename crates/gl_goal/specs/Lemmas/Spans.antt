-- The fixes of a span, of its first and last part and of a single place.
use Rattle.std.proofs.Common.{◌≡◌, ℕ, ◌+◌, ◌-◌, ◌<◌, ◌≤◌, List, [], ◌∷◌, ◌++◌, length, take, drop, get_or, sym, ap, subst, ◌∙◌, arith}
use Rattle.std.proofs.lemmas.List.{drop-drop}
use Rattle.std.proofs.Math.Seq.{take-add, drop-cons}
use Rattle.gl_igc.specs.declared.fix.Fix.{Fix}
use Rattle.gl_goal.specs.Box.{Box, IsLeastBox, fixes_in}

pub fixes_in-single : (fixes : List Fix) (place : ℕ) (d : Fix) → place < length fixes → fixes_in fixes (place, place) ≡ get_or fixes place d ∷ []
fixes_in-single fixes place d below =
    let one : place + 1 - place ≡ 1 = omega arith in
    ap (λ n. take n (drop place fixes)) one ∙ ap (take 1) (drop-cons fixes place d below)

pub fixes_in-parts : (fixes : List Fix) (lo middle hi : ℕ) → lo ≤ middle → middle < hi → fixes_in fixes (lo, hi) ≡ fixes_in fixes (lo, middle) ++ fixes_in fixes (middle + 1, hi)
fixes_in-parts fixes lo middle hi low high =
    let sizes : hi + 1 - lo ≡ (middle + 1 - lo) + (hi + 1 - (middle + 1)) = omega arith in
    let later : lo + (middle + 1 - lo) ≡ middle + 1 = omega arith in
    ap (λ n. take n (drop lo fixes)) sizes
    ∙ take-add (middle + 1 - lo) (hi + 1 - (middle + 1)) (drop lo fixes)
    ∙ ap (λ rest. take (middle + 1 - lo) (drop lo fixes) ++ take (hi + 1 - (middle + 1)) rest) (drop-drop (middle + 1 - lo) lo fixes ∙ ap (λ n. drop n fixes) later)

-- the box of a fix is that of its place
pub single-least : (box : Box) (fixes : List Fix) (lo hi : ℕ) (fix : Fix) → lo ≡ hi → lo < length fixes → fix ≡ get_or fixes lo fix → IsLeastBox box (fix ∷ [])
    → IsLeastBox box (fixes_in fixes (lo, hi))
single-least box fixes lo hi fix same below is least =
    let P : List Fix → Type 0 = IsLeastBox box in
    let one : fix ∷ [] ≡ fixes_in fixes (lo, lo) = ap (λ f. f ∷ []) is ∙ sym (fixes_in-single fixes lo fix below) in
    subst P (one ∙ ap (λ n. fixes_in fixes (lo, n)) same) least
