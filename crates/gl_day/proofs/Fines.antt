-- What stewards are owed, by their rules.
use Rattle.std.proofs.Common.{◌≡◌, ◌∙◌, ap, refl, ℕ, List, [], ◌∷◌, map}
use mathlib.Core.Path.{fun_ext}
use Rattle.std.specs.List.{AllZip}
use Rattle.gl_igc.specs.declared.fix.Fix.{Fix}
use Rattle.gl_task.specs.Penalty.{KeepsRules, held_after, penalty}
use Rattle.gl_task.specs.declared.task.LocalRules.{LocalRules}
use Rattle.gl_day.specs.Flight.{StewardRules, owed_for, steward_rules}

owed_same : {S : Type 0} (opening : S → LocalRules → List ℕ) (fed : S → List ℕ → Fix → List ℕ) (owed : S → List ℕ → ℕ) (xs : List S) (rules : LocalRules) (fixes : List Fix)
    → map (λ s. owed s (held_after (opening s rules) (fed s) fixes)) xs ≡ map (owed_for rules fixes) (map (λ s. steward_rules (opening s) (fed s) (owed s)) xs)
owed_same opening fed owed [] rules fixes = refl
owed_same opening fed owed (x ∷ xs) rules fixes =
    ap (λ (l : List ℕ). owed x (held_after (opening x rules) (fed x) fixes) ∷ l) (owed_same opening fed owed xs rules fixes)

-- a fine is the penalty by the stewards' rules
pub fined : {S : Type 0} (opening : S → LocalRules → List ℕ) (fed : S → List ℕ → Fix → List ℕ) (owed : S → List ℕ → ℕ) (xs : List S) (rules : LocalRules) (found fixes : List Fix) (fine : ℕ)
    → fine ≡ penalty (map (λ s. owed s (held_after (opening s rules) (fed s) found)) xs) → found ≡ fixes
    → fine ≡ penalty (map (owed_for rules fixes) (map (λ s. steward_rules (opening s) (fed s) (owed s)) xs))
fined opening fed owed xs rules found fixes fine is same =
    is ∙ ap penalty (owed_same opening fed owed xs rules found)
    ∙ ap (λ (l : List Fix). penalty (map (owed_for rules l) (map (λ s. steward_rules (opening s) (fed s) (owed s)) xs))) same

same_rules : (opening reopening : LocalRules → List ℕ) (fed refed : List ℕ → Fix → List ℕ) (owed reowed : List ℕ → ℕ) → KeepsRules opening reopening fed refed owed reowed
    → steward_rules reopening refed reowed ≡ steward_rules opening fed owed
same_rules opening reopening fed refed owed reowed keeps =
    ap (λ (o : LocalRules → List ℕ). steward_rules o refed reowed) (fun_ext keeps.opening_kept)
    ∙ ap (λ (f : List ℕ → Fix → List ℕ). steward_rules opening f reowed) (fun_ext (λ l. fun_ext (keeps.fed_kept l)))
    ∙ ap (λ (o : List ℕ → ℕ). steward_rules opening fed o) (fun_ext keeps.owed_kept)

-- stewards that keep their rules are the same by them
pub rules_kept : {S : Type 0} (opening : S → LocalRules → List ℕ) (fed : S → List ℕ → Fix → List ℕ) (owed : S → List ℕ → ℕ) (xs ys : List S)
    → AllZip (λ s t. KeepsRules (opening s) (opening t) (fed s) (fed t) (owed s) (owed t)) xs ys
    → map (λ s. steward_rules (opening s) (fed s) (owed s)) ys ≡ map (λ s. steward_rules (opening s) (fed s) (owed s)) xs
rules_kept opening fed owed [] [] each = refl
rules_kept opening fed owed [] (y ∷ ys) each = absurd each
rules_kept opening fed owed (x ∷ xs) [] each = absurd each
rules_kept opening fed owed (x ∷ xs) (y ∷ ys) each =
    ap (λ (r : StewardRules). r ∷ map (λ s. steward_rules (opening s) (fed s) (owed s)) ys) (same_rules (opening x) (opening y) (fed x) (fed y) (owed x) (owed y) each.0)
    ∙ ap (λ (l : List StewardRules). steward_rules (opening x) (fed x) (owed x) ∷ l) (rules_kept opening fed owed xs ys each.1)
