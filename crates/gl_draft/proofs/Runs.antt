-- The names of a folder, and those of its recordings.
use Rattle.std.proofs.Common.{ℕ, Bool, true, false, List, [], ◌∷◌, Option, None, Some, cond, filter, inl, inr}
use Rattle.std.specs.Prelude.{Contains, IsPermutation}
use Rattle.std.proofs.lemmas.List.Elements.{Contains-append_cases, Contains-append_left, Contains-append_right}
use Rattle.std.proofs.lemmas.List.Sorted.{Contains-permutation, IsPermutation-sym}
use Rattle.gl_desk.specs.Desk.{FilesByName, HaveFiles, ListsNames}

-- what is kept of a list is in it
kept_step : {A : Type 0} (b : Bool) (y : A) (rest ys : List A) (x : A) → (Contains rest x → Contains ys x) → Contains (cond b (y ∷ rest) rest) x → Contains (y ∷ ys) x
kept_step false y rest ys x more has = Contains-append_right (y ∷ []) ys x (more has)
kept_step true y rest ys x more has = elim (Contains-append_cases (y ∷ []) rest x has) [
  | inl one ↦ Contains-append_left (y ∷ []) ys x one
  | inr other ↦ Contains-append_right (y ∷ []) ys x (more other)
]

kept_is_in : {A : Type 0} (p : A → Bool) (xs : List A) (x : A) → Contains (filter p xs) x → Contains xs x
kept_is_in p [] x has = has
kept_is_in p (y ∷ ys) x has = kept_step (p y) y (filter p ys) ys x (kept_is_in p ys x) has

-- where the folder lists names, so it has those that are kept of them in another order
pub kept_files : (folder : Option FilesByName) (p : List ℕ → Bool) (listed names : List (List ℕ)) → ListsNames folder listed → IsPermutation listed names → HaveFiles folder (filter p names)
kept_files None p listed names lists same = λ name has. tt
kept_files (Some files) p listed names lists same = λ name has.
    (lists.1 name).0 (Contains-permutation names listed name (IsPermutation-sym _ _ same) (kept_is_in p names name has))
