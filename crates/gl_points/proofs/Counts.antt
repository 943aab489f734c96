-- How many pass a test.
use Rattle.std.proofs.Common.{refl, sym, subst, ◌≤◌, Bool, true, false, List, [], ◌∷◌, length, filter, cond, arith, IsTrue}
use Rattle.gl_points.specs.declared.performance.Performance.{Performance}

pub filter_low : {X : Type 0} (test : X → Bool) (xs : List X) → length (filter test xs) ≤ length xs
filter_low test [] = omega arith
filter_low test (x ∷ xs) = elim (test x) as (λ b. length (cond b (x ∷ filter test xs) (filter test xs)) ≤ length (x ∷ xs)) [
  | true ↦ omega (arith, filter_low test xs)
  | false ↦ omega (arith, filter_low test xs)
]

-- who finished was launched
finishers_low : (list : List Performance) → length (filter (λ p. p.finished) list) ≤ length (filter (λ p. p.launched) list)
finishers_low [] = omega arith
finishers_low (p ∷ list) =
    let rest = finishers_low list in
    elim p.finished as (λ b. (IsTrue b → IsTrue p.launched) → length (cond b (p ∷ filter (λ q. q.finished) list) (filter (λ q. q.finished) list)) ≤ length (filter (λ q. q.launched) (p ∷ list))) [
      | true ↦ λ launches. subst (λ b. length (p ∷ filter (λ q. q.finished) list) ≤ length (cond b (p ∷ filter (λ q. q.launched) list) (filter (λ q. q.launched) list))) (sym (launches refl))
          (omega (arith, rest))
      | false ↦ λ launches. elim p.launched as (λ b. length (filter (λ q. q.finished) list) ≤ length (cond b (p ∷ filter (λ q. q.launched) list) (filter (λ q. q.launched) list)))
          [ true ↦ omega (arith, rest) | false ↦ omega (arith, rest) ]
    ] p.launched_to_finish

pub fast_launched : (test : Performance → Bool) (list : List Performance) → length (filter test (filter (λ p. p.finished) list)) ≤ length (filter (λ p. p.launched) list)
fast_launched test list = omega (arith, filter_low test (filter (λ p. p.finished) list), finishers_low list)
