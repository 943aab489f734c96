-- Who is served by the passes of a deque, and what follows once all were settled.
use Rattle.std.proofs.Common.{◌≡◌, sym, ap, refl, subst, ℕ, ◌+◌, ◌*◌, ◌<◌, ◌≤◌, eqb, ltb, ◌⊎◌, inl, inr, ⊎_elim, cond, List, [], ◌∷◌, ◌++◌, length, get_or, All, arith}
use Rattle.std.proofs.lemmas.Bool.{eq-eqb, ne_eqb, lt-ltb, le-ltb, cases_lt}
use Rattle.std.proofs.lemmas.List.Sums.{get_or-le-sum_by, sum_by-append, sum_by-cons, sum_by-le}
use Rattle.std.specs.List.{Contains, sum_by}
use Rattle.gl_deal.specs.declared.view.HandView.{HandView}
use Rattle.gl_deal.specs.declared.view.PassView.{PassView}
use Rattle.gl_deal.specs.Rule.{HasEachWorkerOnce, HasSettledAll, IsBalanced, TookAllItPut, TakesForSomeone, times}

-- once for one worker, where it is the other
abbrev once : ℕ → ℕ → ℕ
once worker other = cond (eqb other worker) 1 0

-- once for each worker below a number
abbrev below : ℕ → ℕ → ℕ
below worker workers = cond (ltb worker workers) 1 0

pub times_more : (worker other : ℕ) (workers : List ℕ) → times worker (other ∷ workers) ≡ once worker other + times worker workers
times_more worker other workers = sum_by-cons (once worker) other workers

pub times_both : (worker : ℕ) (xs ys : List ℕ) → times worker (xs ++ ys) ≡ times worker xs + times worker ys
times_both worker xs ys = sum_by-append (once worker) xs ys

once_is : (worker other : ℕ) → other ≡ worker → once worker other ≡ 1
once_is worker other same = ap (λ b. cond b 1 0) (eq-eqb other worker same)

once_not : (worker other : ℕ) → (other ≡ worker → ⊥) → once worker other ≡ 0
once_not worker other differ = ap (λ b. cond b 1 0) (ne_eqb other worker differ)

below_is : (worker workers : ℕ) → worker < workers → below worker workers ≡ 1
below_is worker workers less = ap (λ b. cond b 1 0) (lt-ltb worker workers less)

below_not : (worker workers : ℕ) → workers ≤ worker → below worker workers ≡ 0
below_not worker workers more = ap (λ b. cond b 1 0) (le-ltb worker workers more)

equal_or_less : (a b : ℕ) → a ≤ b → (a ≡ b) ⊎ (a < b)
equal_or_less a b order = ⊎_elim (λ less. inr less) (λ more. inl (omega arith)) (cases_lt a b)

-- the workers below a number, and the worker of that number
pub once_more : (worker workers : ℕ) → below worker (workers + 1) ≡ below worker workers + once worker workers
once_more worker workers = ⊎_elim
    (λ less. omega (arith, below_is worker (workers + 1) (omega arith), below_is worker workers less, once_not worker workers (λ same. omega arith)))
    (λ more. ⊎_elim
    (λ (same : workers ≡ worker). omega (arith, below_is worker (workers + 1) (omega arith), below_not worker workers more, once_is worker workers same))
    (λ (beyond : workers < worker). omega (arith, below_not worker (workers + 1) (omega arith), below_not worker workers more, once_not worker workers (λ same. omega arith)))
    (equal_or_less workers worker more))
    (cases_lt worker workers)

pub sum_with : {X : Type 0} (f : X → ℕ) (xs : List X) (x : X) → sum_by f (xs ++ x ∷ []) ≡ sum_by f xs + f x
sum_with f xs x = let both = sum_by-append f xs (x ∷ []) in let one = sum_by-cons f x [] in omega arith

contained : (worker : ℕ) (workers : List ℕ) → Contains workers worker → 1 ≤ times worker workers
contained worker workers is =
    let least = get_or-le-sum_by (once worker) workers is.0 worker is.1 in
    omega (arith, once_is worker (get_or workers is.0 worker) is.2)

below_most : (worker workers : ℕ) → below worker workers ≤ 1
below_most worker workers = ⊎_elim (λ less. omega (arith, below_is worker workers less)) (λ more. omega (arith, below_not worker workers more)) (cases_lt worker workers)

-- a worker whom a pass serves wasn't settled, and isn't the owner
not_settled : (hand : HandView) (passes : List PassView) (k : ℕ) (d : PassView) (worker : ℕ) (rest : List ℕ) → HasSettledAll hand → HasEachWorkerOnce hand passes → k < length passes
    → (get_or passes k d).serves ≡ worker ∷ rest → ⊥
not_settled hand passes k d worker rest all served within is =
    let whole = served worker in
    let part = get_or-le-sum_by (λ (p : PassView). times worker p.serves) passes k d within in
    let one : 1 ≤ times worker (get_or passes k d).serves = subst (λ workers. 1 ≤ times worker workers) (sym is) (omega (arith, times_more worker worker rest, once_is worker worker refl)) in
    let most = below_most worker hand.workers in
    let none : times worker (hand.owner ∷ hand.settled) ≡ 0 = omega arith in
    let owner = times_more worker hand.owner hand.settled in
    ⊎_elim
    (λ (less : worker < hand.workers).
    let there = contained worker hand.settled (all worker less (λ same. omega (arith, once_is worker hand.owner (sym same)))) in omega arith)
    (λ (more : hand.workers ≤ worker). omega (arith, below_not worker hand.workers more))
    (cases_lt worker hand.workers)

none_there : (workers : List ℕ) → ((worker : ℕ) (rest : List ℕ) → workers ≡ worker ∷ rest → ⊥) → workers ≡ []
none_there [] never = refl
none_there (worker ∷ rest) never = absurd (never worker rest refl)

-- where the hand has all, its passes serve nobody
nobody : (hand : HandView) (passes : List PassView) → HasSettledAll hand → HasEachWorkerOnce hand passes → (k : ℕ) (d : PassView) → k < length passes → (get_or passes k d).serves ≡ []
nobody hand passes all served k d within = none_there (get_or passes k d).serves (λ worker rest is. not_settled hand passes k d worker rest all served within is)

-- where the hand has all, what it put weighs what it took and gathered, if the deque is empty
pub all_taken : (hand : HandView) (passes : List PassView) → HasSettledAll hand → IsBalanced [] hand passes → HasEachWorkerOnce hand passes → All TakesForSomeone passes → TookAllItPut hand
all_taken hand passes all balanced served idle weight =
    let b = balanced weight in
    let none : sum_by (λ (p : PassView). sum_by weight p.taken) passes ≤ length passes * 0 = sum_by-le (λ (p : PassView). sum_by weight p.taken) 0 passes
    (λ k d within. subst (λ cells. sum_by weight cells ≤ 0) (sym (idle k d within (nobody hand passes all served k d within))) (omega arith)) in
    omega arith
