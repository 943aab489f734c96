-- Lists in step with one another, and the last item of a list.
use Rattle.std.proofs.Common.{◌≡◌, ◌∙◌, sym, ap, subst, refl, ℕ, suc, ◌+◌, ◌-◌, ◌<◌, List, [], ◌∷◌, ◌++◌, length, get_or, take, map, slice_set, Option, Some, arith}
use Rattle.std.specs.Prelude.{All}
use Rattle.std.specs.List.{AllZip}
use Rattle.std.proofs.lemmas.List.{get_or-map, length-map, length-set, same_from_push, take_all, take_more, take_more_set}
use Rattle.std.proofs.lemmas.List.Elements.{All-pop}

pub AllZip-length : {A B : Type 0} (R : A → B → Type 0) (xs : List A) (ys : List B) → AllZip R xs ys → length xs ≡ length ys
AllZip-length R [] [] all = refl
AllZip-length R [] (q ∷ ys) all = absurd all
AllZip-length R (p ∷ xs) [] all = absurd all
AllZip-length R (p ∷ xs) (q ∷ ys) all = ap suc (AllZip-length R xs ys all.1)

-- each of two lists has one more
pub AllZip-push : {A B : Type 0} (R : A → B → Type 0) (xs : List A) (ys : List B) (x : A) (y : B) → AllZip R xs ys → R x y → AllZip R (xs ++ x ∷ []) (ys ++ y ∷ [])
AllZip-push R [] [] x y all last = (last, tt)
AllZip-push R [] (q ∷ ys) x y all last = absurd all
AllZip-push R (p ∷ xs) [] x y all last = absurd all
AllZip-push R (p ∷ xs) (q ∷ ys) x y all last = (all.0, AllZip-push R xs ys x y all.1 last)

-- two lists behind two others
pub AllZip-append : {A B : Type 0} (R : A → B → Type 0) (a c : List A) (b d : List B) → AllZip R a b → AllZip R c d → AllZip R (a ++ c) (b ++ d)
AllZip-append R [] c [] d one two = two
AllZip-append R [] c (y ∷ b) d one two = absurd one
AllZip-append R (x ∷ a) c [] d one two = absurd one
AllZip-append R (x ∷ a) c (y ∷ b) d one two = (one.0, AllZip-append R a c b d one.1 two)

-- what holds of what is read off each of some items
pub All-unmap : {X Y : Type 0} (P : Y → Type 0) (f : X → Y) (xs : List X) → All P (map f xs) → All (λ x. P (f x)) xs
All-unmap P f xs all k d below =
    subst P (get_or-map f xs k d (f d) below) (all k (f d) (omega (arith, length-map xs f)))

-- what holds of all, holds of the last and of those before it
pub All-last : {A : Type 0} (P : A → Type 0) (xs : List A) (x : A) → All P (xs ++ x ∷ []) → All P xs × P x
All-last P xs x all = All-pop P (xs ++ x ∷ []) xs (Some x) refl all

-- the last element, and what stands before it
pub top_is : {A : Type 0} (xs : List A) (n : ℕ) (x : A) → 0 < length xs → n ≡ length xs - 1 → x ≡ get_or xs n x → xs ≡ take n xs ++ x ∷ []
top_is xs n x some last is =
    let all : n + 1 ≡ length xs = omega arith in
    sym (take_all (n + 1) xs (omega arith)) ∙ take_more xs n x (omega arith) ∙ ap (λ y. take n xs ++ y ∷ []) (sym is)

pub set_top : {A : Type 0} (xs : List A) (n : ℕ) (x : A) → 0 < length xs → n ≡ length xs - 1 → slice_set xs n x ≡ take n xs ++ x ∷ []
set_top xs n x some last =
    let all : n + 1 ≡ length xs = omega arith in
    sym (take_all (n + 1) (slice_set xs n x) (omega (arith, length-set xs n x))) ∙ take_more_set xs n x (omega arith)

-- two reads of the last element
pub same_top : {A : Type 0} (xs ys zs : List A) (x y : A) → xs ≡ ys ++ x ∷ [] → xs ≡ zs ++ y ∷ [] → x ≡ y
same_top xs ys zs x y one other = (same_from_push ys zs x y (sym one ∙ other)).1

-- what an option is, is one thing
pub one_some : {X : Type 0} (o : Option X) (a b : X) → o ≡ Some a → o ≡ Some b → a ≡ b
one_some o a b is also = cc
