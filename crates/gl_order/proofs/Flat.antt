-- Lists of lists in another order: what they have together is in another order too.
use Rattle.std.proofs.Common.{subst, ℕ, zero, suc, ◌<◌, List, [], ◌∷◌, ◌++◌, length, get_or, slice_set, append_assoc, arith}
use Rattle.std.specs.List.{flat_map}
use Rattle.std.specs.List.Sorted.{IsPermutation}
use Rattle.std.proofs.lemmas.List.Edits.{swap_is}
use Rattle.std.proofs.lemmas.List.Sorted.{IsPermutation-append_comm, IsPermutation-append_left, IsPermutation-append_right, IsPermutation-keeps, IsPermutation-refl, IsPermutation-trans}

-- the first two of three lists change places
pub turned : {A : Type 0} (xs ys zs : List A) → IsPermutation (xs ++ (ys ++ zs)) (ys ++ (xs ++ zs))
turned xs ys zs =
    subst (λ l. IsPermutation l (ys ++ (xs ++ zs))) (append_assoc xs ys zs)
    (subst (IsPermutation ((xs ++ ys) ++ zs)) (append_assoc ys xs zs) (IsPermutation-append_left zs (xs ++ ys) (ys ++ xs) (IsPermutation-append_comm xs ys)))

module _ {X A : Type 0} (f : X → List A) where
  -- an element changes places with one in front
  exchanged : (xs : List X) (i : ℕ) (x d : X) → i < length xs → IsPermutation (f x ++ flat_map f xs) (f (get_or xs i d) ++ flat_map f (slice_set xs i x))
  exchanged [] i x d below = absurd (omega arith)
  exchanged (y ∷ ys) zero x d below = turned (f x) (f y) (flat_map f ys)
  exchanged (y ∷ ys) (suc i) x d below =
      let z = get_or ys i d in
      let rest = flat_map f (slice_set ys i x) in
      IsPermutation-trans (f x ++ (f y ++ flat_map f ys)) (f y ++ (f x ++ flat_map f ys)) (f z ++ (f y ++ rest)) (turned (f x) (f y) (flat_map f ys))
      (IsPermutation-trans (f y ++ (f x ++ flat_map f ys)) (f y ++ (f z ++ rest)) (f z ++ (f y ++ rest))
      (IsPermutation-append_right (f y) (f x ++ flat_map f ys) (f z ++ rest) (exchanged ys i x d (omega arith))) (turned (f y) (f z) rest))

  swapped : (xs : List X) (i j : ℕ) (d : X) → i < length xs → j < length xs → IsPermutation (flat_map f xs) (flat_map f (slice_set (slice_set xs i (get_or xs j d)) j (get_or xs i d)))
  swapped [] i j d first second = absurd (omega arith)
  swapped (x ∷ xs) zero zero d first second = IsPermutation-refl (flat_map f (x ∷ xs))
  swapped (x ∷ xs) zero (suc j) d first second = exchanged xs j x d (omega arith)
  swapped (x ∷ xs) (suc i) zero d first second = exchanged xs i x d (omega arith)
  swapped (x ∷ xs) (suc i) (suc j) d first second = IsPermutation-append_right (f x) (flat_map f xs) (flat_map f (slice_set (slice_set xs i (get_or xs j d)) j (get_or xs i d)))
      (swapped xs i j d (omega arith) (omega arith))

  some_element : (xs : List X) → 0 < length xs → X
  some_element [] some = absurd (omega arith)
  some_element (x ∷ xs) some = x

  pub flat-permutation : (xs ys : List X) → IsPermutation xs ys → IsPermutation (flat_map f xs) (flat_map f ys)
  flat-permutation xs ys same =
      IsPermutation-keeps xs (λ l. IsPermutation (flat_map f xs) (flat_map f l)) (IsPermutation-refl (flat_map f xs))
      (λ l i j first second so_far.
      let d = some_element l (omega arith) in
      let next = subst (λ (after : List X). IsPermutation (flat_map f l) (flat_map f after)) (swap_is l i j d first second) (swapped l i j d first second) in
      IsPermutation-trans (flat_map f xs) (flat_map f l) _ so_far next) ys same
