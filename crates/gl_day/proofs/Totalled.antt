-- The totals of claims, one claim after another.
use Rattle.std.proofs.Common.{◌≡◌, ◌∙◌, sym, ap, refl, ℕ, Bool, List, [], ◌∷◌, ◌++◌, Option, Some, None}
use Rattle.std.specs.Prelude.{slice_get}
use Rattle.std.specs.List.{filter_map}
use Rattle.std.specs.Option.{option_or}
use Rattle.std.proofs.lemmas.List.Elements.{filter_map-append}
use Rattle.gl_proof.specs.declared.claim.ClaimKind.{ClaimKind}
use Rattle.gl_proof.specs.Claim.{Statement}
use Rattle.gl_day.specs.Totals.{claimed_total, total_if}

first-append : (xs ys : List ℕ) → slice_get (xs ++ ys) 0 ≡ option_or (slice_get xs 0) (slice_get ys 0)
first-append [] ys = refl
first-append (x ∷ xs) ys = refl

first_of : (o : Option ℕ) (test : ClaimKind → Bool) (s : Statement) → total_if test s ≡ o → slice_get (filter_map (total_if test) (s ∷ [])) 0 ≡ o
first_of None test s is = rw is refl
first_of (Some n) test s is = rw is refl

-- a total with one claim more
total-push : (test : ClaimKind → Bool) (statements : List Statement) (s : Statement) → claimed_total test (statements ++ s ∷ []) ≡ option_or (claimed_total test statements) (total_if test s)
total-push test statements s =
    ap (λ (l : List ℕ). slice_get l 0) (filter_map-append (total_if test) statements (s ∷ []))
    ∙ first-append (filter_map (total_if test) statements) (filter_map (total_if test) (s ∷ []))
    ∙ ap (option_or (claimed_total test statements)) (first_of (total_if test s) test s refl)

or-none : (o : Option ℕ) → option_or o None ≡ o
or-none None = refl
or-none (Some n) = refl

-- a claim of the kind
pub total_taken : (test : ClaimKind → Bool) (statements : List Statement) (s : Statement) (total next : Option ℕ) → total_if test s ≡ s.total → total ≡ claimed_total test statements
    → next ≡ option_or total s.total → next ≡ claimed_total test (statements ++ s ∷ [])
total_taken test statements s total next of_kind is taken =
    taken ∙ ap (λ (o : Option ℕ). option_or o s.total) is ∙ ap (option_or (claimed_total test statements)) (sym of_kind) ∙ sym (total-push test statements s)

-- a claim of another kind
pub total_kept : (test : ClaimKind → Bool) (statements : List Statement) (s : Statement) (total : Option ℕ) → total_if test s ≡ None → total ≡ claimed_total test statements
    → total ≡ claimed_total test (statements ++ s ∷ [])
total_kept test statements s total other is =
    is ∙ sym (or-none (claimed_total test statements)) ∙ ap (option_or (claimed_total test statements)) (sym other) ∙ sym (total-push test statements s)
