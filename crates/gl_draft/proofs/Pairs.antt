-- Things that belong to one another in their places, one by one.
use Rattle.std.proofs.Common.{◌≡◌, ◌∙◌, ℕ, ◌+◌, ◌<◌, add-one, ap, sym, subst, List, [], ◌∷◌, ◌++◌, length, take, get_or}
use Rattle.std.proofs.Math.Seq.{take-suc}
use Rattle.gl_draft.specs.Recordings.{Pairwise}

-- one more at the end of each
pub pairs-snoc : {A B : Type 0} (R : A → B → Type 0) (xs : List A) (ys : List B) (x : A) (y : B) → Pairwise R xs ys → R x y → Pairwise R (xs ++ x ∷ []) (ys ++ y ∷ [])
pairs-snoc R [] [] x y are is = (is, tt)
pairs-snoc R [] (z ∷ ys) x y are is = absurd are
pairs-snoc R (z ∷ xs) [] x y are is = absurd are
pairs-snoc R (z ∷ xs) (w ∷ ys) x y are is = (are.0, pairs-snoc R xs ys x y are.1 is)

-- one more of a list, and one more beside it
pub next_pairs : {A B : Type 0} (R : A → B → Type 0) (xs : List A) (ys now : List B) (i : ℕ) (x : A) (y : B) → i < length xs → x ≡ get_or xs i x → Pairwise R (take i xs) ys → R x y
    → now ≡ ys ++ y ∷ [] → Pairwise R (take (i + 1) xs) now
next_pairs R xs ys now i x y inside is are this pushed =
    let longer : take (i + 1) xs ≡ take i xs ++ x ∷ [] = rw add-one (take-suc xs i x inside ∙ ap (λ z. take i xs ++ z ∷ []) (sym is)) in
    subst (λ zs. Pairwise R zs now) (sym longer) (subst (Pairwise R (take i xs ++ x ∷ [])) (sym pushed) (pairs-snoc R (take i xs) ys x y are this))
