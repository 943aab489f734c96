-- A list that grows by what is made of each item of another.
use Rattle.std.proofs.Common.{◌≡◌, ◌∙◌, ap, sym, ℕ, ◌+◌, ◌<◌, ◌≤◌, List, [], ◌∷◌, ◌++◌, get_or, length, map, take}
use Rattle.std.proofs.lemmas.List.{map_more, take_all}

-- one item more
pub mapped-more : {X Y : Type 0} (f : X → Y) (xs : List X) (i : ℕ) (x : X) (y : Y) (was now : List Y) → i < length xs → x ≡ get_or xs i x → y ≡ f x → was ≡ map f (take i xs) → now ≡ was ++ y ∷ []
    → now ≡ map f (take (i + 1) xs)
mapped-more f xs i x y was now below item is before pushed =
    pushed ∙ ap (λ l. l ++ y ∷ []) before ∙ ap (λ v. map f (take i xs) ++ v ∷ []) (is ∙ ap f item) ∙ sym (map_more f xs i x below)

-- all of them
pub mapped-all : {X Y : Type 0} (f : X → Y) (xs : List X) (i : ℕ) (was : List Y) → length xs ≤ i → was ≡ map f (take i xs) → was ≡ map f xs
mapped-all f xs i was past before = before ∙ ap (map f) (take_all i xs past)
