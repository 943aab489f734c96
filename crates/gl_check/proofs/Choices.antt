-- Fixes against the tuple that chooses them.
use Rattle.std.proofs.Common.{◌≡◌, ◌∙◌, sym, ℕ, suc, ◌<◌, ◌≤◌, List, [], ◌∷◌, length, get_or, arith}
use Rattle.std.proofs.lemmas.List.{get_or_default, same_lists}
use Rattle.gl_goal.specs.Goal.{IsGoal, IsTuple, Goal, chosen, fix_at}
use Rattle.gl_goal.proofs.Order.{fix_rises}
use Rattle.gl_goal.specs.Lemmas.Points.{get_or-chosen, length-chosen}

-- fixes rise with their places
pub fix_order : (rule : Goal) (axis p q : ℕ) → IsGoal rule → axis < length rule.axes → p ≤ q → q < length (get_or rule.axes axis []) → fix_at rule.axes axis p ≤ fix_at rule.axes axis q
fix_order rule axis p q goal inside order below = fix_rises (get_or rule.axes axis []) p q (goal.rising axis [] inside) order below

-- a tuple has a place on each axis
pub tuple_from : (axes : List (List ℕ)) (tuple : List ℕ) → length tuple ≡ length axes → ((k : ℕ) → k < length axes → get_or tuple k 0 < length (get_or axes k [])) → IsTuple axes tuple
tuple_from [] [] same each = tt
tuple_from [] (place ∷ places) same each = absurd (omega arith)
tuple_from (axis ∷ axes) [] same each = absurd (omega arith)
tuple_from (axis ∷ axes) (place ∷ places) same each =
    (each 0 (omega arith), tuple_from axes places (omega arith) (λ k below. each (suc k) (omega arith)))

-- the fixes that a tuple chooses, axis by axis
pub chosen_from : (axes : List (List ℕ)) (tuple fixes : List ℕ) → IsTuple axes tuple → length fixes ≡ length axes → ((k : ℕ) → k < length axes → fix_at axes k (get_or tuple k 0) ≡ get_or fixes k 0)
    → fixes ≡ chosen axes tuple
chosen_from axes tuple fixes fits long each =
    same_lists fixes (chosen axes tuple) (long ∙ sym (length-chosen axes tuple fits))
    (λ k d below.
    let inside : k < length axes = omega arith in
    get_or_default fixes k d 0 below ∙ sym (each k inside) ∙ sym (get_or-chosen axes tuple k fits inside)
    ∙ get_or_default (chosen axes tuple) k 0 d (omega (arith, inside, length-chosen axes tuple fits)))
