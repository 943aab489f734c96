-- How the numbers that are kept grow by one.
use Rattle.std.proofs.Common.{◌≡◌, ◌≢◌, ◌∙◌, sym, ap, subst, refl, ℕ, Bool, true, false, List, [], ◌∷◌, ◌++◌, Decides, map, ⊎_elim}
use Rattle.std.specs.Prelude.{All, ◌↔◌, IsTrue, not}
use Rattle.std.specs.BTreeSet.{BTreeSet, Updates, contains}
use Rattle.std.specs.Cmp.Lexicographic.{slice_cmp}
use Rattle.std.specs.Ordering.{nat_cmp, eq_by_cmp}
use Rattle.std.proofs.lemmas.Bool.{cases_Bool, false≢true}
use Rattle.std.proofs.lemmas.List.{map-append}
use Rattle.std.proofs.lemmas.List.Elements.{All-push}
use Rattle.std.proofs.lemmas.Map.Text.{is_eq-slice_cmp}
use Rattle.std.proofs.lemmas.Slice.Eq.{bytes_eq-Decides}
use Rattle.gl_series.proofs.Growing.{all_begin, all_last}

-- the order of texts ties two texts exactly where they are one
abbrev same_text : List ℕ → List ℕ → Bool
same_text = eq_by_cmp (slice_cmp nat_cmp)

same_text-Decides : (a b : List ℕ) → Decides (same_text a b) (a ≡ b)
same_text-Decides a b = rw is_eq-slice_cmp (bytes_eq-Decides a b)

-- what a set has, as in `HasNumbers`
abbrev Has : BTreeSet (List ℕ) → List (List ℕ) → Type 0
Has seen numbers = (number : List ℕ)
    → (contains (slice_cmp nat_cmp) seen number ≡ false) ↔ All (λ other. other ≢ number) numbers

pub kept_more : (old new : BTreeSet (List ℕ)) (numbers : List (List ℕ)) (key : List ℕ) → Updates (slice_cmp nat_cmp) old new key true → Has old numbers → Has new (numbers ++ key ∷ [])
kept_more old new numbers key changes has number =
    let apart : List ℕ → Type 0 = λ other. other ≢ number in
    ⊎_elim
    (λ (tied : same_text key number ≡ true).
    let same : key ≡ number = (same_text-Decides key number).0 tied in
    let now : contains (slice_cmp nat_cmp) new number ≡ true = subst (λ (n : List ℕ). contains (slice_cmp nat_cmp) new n ≡ true) same changes.1 in
    ((λ absent. absurd (false≢true (sym absent ∙ now))), (λ all. absurd (all_last apart numbers key all same))))
    (λ (free : same_text key number ≡ false).
    let differs : key ≢ number = (λ same. false≢true (sym free ∙ (same_text-Decides key number).1 same)) in
    let now : contains (slice_cmp nat_cmp) new number ≡ contains (slice_cmp nat_cmp) old number = changes.2 number free in
    ((λ absent. All-push apart numbers key ((has number).0 (sym now ∙ absent)) differs), (λ all. now ∙ (has number).1 (all_begin apart numbers (key ∷ []) all))))
    (cases_Bool (same_text key number))

-- a number is new exactly where the set hasn't it
pub new_number : (seen : BTreeSet (List ℕ)) (numbers : List (List ℕ)) (number : List ℕ) (found : Bool) → found ≡ contains (slice_cmp nat_cmp) seen number → Has seen numbers
    → IsTrue (not found) ↔ All (λ other. other ≢ number) numbers
new_number seen numbers number true is has = (
  λ free. absurd (false≢true free),
  λ all. absurd (false≢true (sym ((has number).1 all) ∙ sym is)),
)
new_number seen numbers number false is has = (λ free. (has number).0 (sym is), λ all. refl)

-- the numbers of some items and one more
pub kept_item : {X : Type 0} (f : X → List ℕ) (old new : BTreeSet (List ℕ)) (xs ys : List X) (x : X) → ys ≡ xs ++ x ∷ [] → ((numbers : List (List ℕ)) → Has old numbers → Has new (numbers ++ f x ∷ []))
    → Has old (map f xs) → Has new (map f ys)
kept_item f old new xs ys x is added has =
    subst (Has new) (sym (ap (map f) is ∙ map-append f xs (x ∷ []))) (added (map f xs) has)
