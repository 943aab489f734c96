-- What is owed after the fixes of a window.
use Rattle.std.proofs.Common.{◌≡◌, ◌∙◌, ap, sym, ℕ, ◌+◌, ◌-◌, ◌<◌, ◌≤◌, arith, List, length, take, drop}
use Rattle.std.specs.Prelude.{slice_range}
use Rattle.std.proofs.lemmas.List.{length-drop, length-take, take-take}
use Rattle.gl_day.specs.Code.Found.{IsWindowOf}
use Rattle.gl_day.specs.Flight.{fixes_of_window, owed_for}
use Rattle.gl_igc.specs.declared.fix.Fix.{Fix}
use Rattle.gl_judge.specs.Greatest.{IsLeast}
use Rattle.gl_judge.specs.declared.outcome.Window.{Window}
use Rattle.gl_task.specs.declared.task.LocalRules.{LocalRules}
use Rattle.gl_why.specs.Code.Fines.{OwesAt}
use Rattle.gl_why.specs.Fines.{OwesAll, owed_after, owed_in_end, rules_of}
use Rattle.gl_why.specs.declared.fact.Rule as code_rule

-- how many fixes a window has
pub window_length : (fixes : List Fix) (window : Window) → IsWindowOf fixes window → length (fixes_of_window fixes window) ≡ window.last + 1 - window.first
window_length fixes window is =
    let whole = length-drop window.first fixes in
    let within = is.within in
    let ordered = is.ordered in
    let taken = length-take (window.last + 1 - window.first) (drop window.first fixes) in
    omega (arith, taken, whole, within, ordered)

-- the first fixes of a window
window_part : (fixes : List Fix) (window : Window) (k : ℕ) → window.first + k ≤ window.last → take (k + 1) (fixes_of_window fixes window) ≡ slice_range fixes window.first (window.first + k + 1)
window_part fixes window k within =
    let many : window.first + k + 1 - window.first ≡ k + 1 = omega arith in
    take-take (k + 1) (window.last + 1 - window.first) (drop window.first fixes) (omega (arith, within)) ∙ ap (λ (n : ℕ). take n (drop window.first fixes)) (sym many)

-- what is owed after them
pub owed_part : (rules : LocalRules) (fixes : List Fix) (window : Window) (which : code_rule.Rule) (k : ℕ) → window.first + k ≤ window.last
    → owed_for rules (take (k + 1) (fixes_of_window fixes window)) (rules_of which) ≡ owed_after rules fixes window which (window.first + k)
owed_part rules fixes window which k within = ap (λ (l : List Fix). owed_for rules l (rules_of which)) (window_part fixes window k within)

-- none before the first of them owes as much
least_there : (rules : LocalRules) (fixes : List Fix) (window : Window) (which : code_rule.Rule) (points k i : ℕ) → IsWindowOf fixes window → points ≡ owed_in_end rules fixes window which
    → IsLeast (OwesAt (rules_of which) rules (fixes_of_window fixes window) points) k → OwesAll rules fixes window which i → window.first + k ≤ i
least_there rules fixes window which points k i window_is points_are first all =
    let j : ℕ = i - window.first in
    let from = all.from in
    let at : window.first + j ≡ i = omega (arith, from) in
    let highest = all.upto in
    let upto : window.first + j ≤ window.last = omega (arith, at, highest) in
    let many = window_length fixes window window_is in
    let inside : j < length (fixes_of_window fixes window) = omega (arith, many, upto) in
    let owes = owed_part rules fixes window which j upto ∙ ap (owed_after rules fixes window which) at ∙ all.owes ∙ sym points_are in
    let low = first.least j (record { inside = inside; owes = owes }) in
    omega (arith, low, at)

-- the first of them after which as much is owed as in the end
pub first_there : (rules : LocalRules) (fixes : List Fix) (window : Window) (which : code_rule.Rule) (points k : ℕ) → IsWindowOf fixes window → points ≡ owed_in_end rules fixes window which
    → IsLeast (OwesAt (rules_of which) rules (fixes_of_window fixes window) points) k → IsLeast (OwesAll rules fixes window which) (window.first + k)
first_there rules fixes window which points k window_is points_are first =
    let many = window_length fixes window window_is in
    let inside = first.is.inside in
    let upto : window.first + k ≤ window.last = omega (arith, many, inside) in
    record {
      is = record {
        from = omega arith;
        upto = upto;
        owes = sym (owed_part rules fixes window which k upto) ∙ first.is.owes ∙ points_are;
      };
      least = λ i all. least_there rules fixes window which points k i window_is points_are first all;
    }

-- there is one
pub some_there : (rules : LocalRules) (fixes : List Fix) (window : Window) (which : code_rule.Rule) (points : ℕ) → IsWindowOf fixes window → points ≡ owed_in_end rules fixes window which
    → ((k : ℕ) → OwesAt (rules_of which) rules (fixes_of_window fixes window) points k → ⊥) → ⊥
some_there rules fixes window which points window_is points_are none =
    let k : ℕ = window.last - window.first in
    let ordered = window_is.ordered in
    let at : window.first + k ≡ window.last = omega (arith, ordered) in
    let upto : window.first + k ≤ window.last = omega (arith, at) in
    let many = window_length fixes window window_is in
    let inside : k < length (fixes_of_window fixes window) = omega (arith, many, at) in
    none k (record { inside = inside; owes = owed_part rules fixes window which k upto ∙ ap (owed_after rules fixes window which) at ∙ sym points_are })
