-- The fixes that a search found, and how many they are.
use Rattle.std.proofs.Common.{◌≡◌, sym, subst, refl, ℕ, ◌≤◌, List, length, Option, Some, None, arith}
use Rattle.std.specs.Prelude.{◌↔◌, IsNone, IsSome}
use Rattle.gl_goal.specs.Lemmas.Points.{length-chosen}
use Rattle.gl_goal.specs.Goal.{IsGoal, IsLegal, IsOptimum, Goal}
use Rattle.gl_box.specs.Tuple.{places_of}
use Rattle.gl_goal.specs.declared.best.Best.{Best}
use Rattle.gl_goal.specs.Best.{IsSound, fixes_of, total_of}

-- at most 10 fixes are found
pub ten_found : (rule : Goal) (best : Option Best) (fixes : List ℕ) → IsGoal rule → IsSound rule best → fixes ≡ fixes_of rule best → length fixes ≤ 10
ten_found rule None fixes goal sound same = subst (λ (l : List ℕ). length l ≤ 10) (sym same) (omega arith)
ten_found rule (Some best) fixes goal sound same =
    let long = length-chosen rule.axes (places_of best.tuple) sound.legal.is_tuple in
    let most = goal.ten_axes in
    subst (λ (l : List ℕ). length l ≤ 10) (sym same) (omega (arith, long, most))

counted : (rule : Goal) (best : Option Best) → IsGoal rule → IsSound rule best → IsNone (total_of best) ↔ (length (fixes_of rule best) ≡ 0)
counted rule None goal sound = (λ _. refl, λ _. refl)
counted rule (Some best) goal sound =
    let long = length-chosen rule.axes (places_of best.tuple) sound.legal.is_tuple in
    let some = goal.some_axis in
    (λ none. absurd (cc), λ empty. absurd (omega (arith, long, some, empty)))

-- no fix is found exactly where no total is
pub named_found : (rule : Goal) (best : Option Best) (total : Option ℕ) (fixes : List ℕ) → IsGoal rule → IsSound rule best → total ≡ total_of best → fixes ≡ fixes_of rule best
    → IsNone total ↔ (length fixes ≡ 0)
named_found rule best total fixes goal sound is are =
    subst (λ (t : Option ℕ). IsNone t ↔ (length fixes ≡ 0)) (sym is)
    (subst (λ (l : List ℕ). IsNone (total_of best) ↔ (length l ≡ 0)) (sym are) (counted rule best goal sound))

-- the optimum is a total where a choice is legal
pub legal_total : (rule : Goal) (total : Option ℕ) (tuple : List ℕ) → IsOptimum rule total → IsLegal rule tuple → IsSome total
legal_total rule None tuple optimum legal = absurd (optimum tuple legal)
legal_total rule (Some total) tuple optimum legal = refl
