-- One more steward is charged.
use Rattle.std.proofs.Common.{◌≡◌, sym, ap, subst, ◌∙◌, ℕ, ◌+◌, ◌-◌, ◌<◌, min, List, [], ◌∷◌, ◌++◌, length, map, take, drop, get_or, set, arith, add-one}
use Rattle.std.specs.List.{AllZip}
use Rattle.std.proofs.Math.Seq.{take-suc-set}
use Rattle.std.proofs.lemmas.List.{drop-drop, drop-set-lt, get_or-drop, length-drop}
use Rattle.std.proofs.lemmas.List.Elements.{all_zip_more}
use Rattle.std.proofs.lemmas.List.Sums.{sum-map, sum_by_more}
use Rattle.gl_task.specs.Penalty.{penalty}

-- what is left of two lists alike begins alike
begins_alike : {X : Type 0} (xs ys : List X) (i : ℕ) (x : X) → i < length ys → x ≡ get_or ys i x → drop i ys ≡ drop i xs → x ≡ get_or xs i x
begins_alike xs ys i x within at rest =
    let e : get_or (drop i ys) 0 x ≡ get_or ys (i + 0) x = get_or-drop i ys 0 x in
    let f : get_or (drop i xs) 0 x ≡ get_or xs (i + 0) x = get_or-drop i xs 0 x in
    let k : i + 0 ≡ i = omega arith in
    at ∙ ap (λ n. get_or ys n x) (sym k) ∙ sym e ∙ ap (λ l. get_or l 0 x) rest ∙ f ∙ ap (λ n. get_or xs n x) k

left_alike : {X : Type 0} (xs ys : List X) (i : ℕ) → i < length ys → drop i ys ≡ drop i xs → i < length xs
left_alike {X} xs ys i within rest =
    let e : length (drop i ys) ≡ length (drop i xs) = ap length rest in
    omega (arith, e, length-drop i ys, length-drop i xs)

pub charged_more : {X : Type 0} (R : X → X → Type 0) (xs ys : List X) (i : ℕ) (x y : X) → i < length ys → x ≡ get_or ys i x → drop i ys ≡ drop i xs → AllZip R (take i xs) (take i ys) → R x y
    → AllZip R (take (i + 1) xs) (take (i + 1) (set ys i y))
charged_more R xs ys i x y within at rest so_far here =
    let e : take (i + 1) (set ys i y) ≡ take i ys ++ (y ∷ []) = ap (λ n. take n (set ys i y)) (add-one i) ∙ take-suc-set ys i y within in
    subst (λ (l : List _). AllZip R (take (i + 1) xs) l) (sym e)
    (all_zip_more R xs (take i ys) i x y (left_alike xs ys i within rest) (begins_alike xs ys i x within at rest) so_far here)

pub rest_more : {X : Type 0} (xs ys : List X) (i : ℕ) (y : X) → drop i ys ≡ drop i xs → drop (i + 1) (set ys i y) ≡ drop (i + 1) xs
rest_more xs ys i y rest = drop-set-lt (i + 1) ys i y (omega arith) ∙ sym (drop-drop 1 i ys) ∙ ap (λ l. drop 1 l) rest ∙ drop-drop 1 i xs

pub total_more : {X : Type 0} (owes : X → ℕ) (xs ys : List X) (i : ℕ) (x : X) (total due : ℕ) → i < length ys → x ≡ get_or ys i x → drop i ys ≡ drop i xs → due ≡ owes x
    → total ≡ penalty (map owes (take i xs)) → total + min due (1_000 - total) ≡ penalty (map owes (take (i + 1) xs))
total_more owes xs ys i x total due within at rest is so_far =
    let more = sum_by_more owes xs i x (left_alike xs ys i within rest) in
    let last : owes x ≡ owes (get_or xs i x) = ap owes (begins_alike xs ys i x within at rest) in
    omega (arith, sum-map owes (take i xs), sum-map owes (take (i + 1) xs), more, last)
