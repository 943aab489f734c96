-- What is gathered from workers, one after another.
use Rattle.std.proofs.Common.{◌≡◌, ◌∙◌, sym, ap, subst, inl, inr, ℕ, ◌+◌, ◌<◌, ◌≤◌, List, [], ◌∷◌, ◌++◌, length, get_or, map, take, append_assoc, arith}
use Rattle.std.specs.Prelude.{◌⊎◌, All, Contains, IfSome, Option, Some, None}
use Rattle.std.specs.List.{flat_map}
use Rattle.std.proofs.lemmas.Grind.{flat_map-append}
use Rattle.std.proofs.lemmas.List.{append-nil, get_or-map, length-map, map-append, take_all, take_more}
use Rattle.std.proofs.lemmas.List.Elements.{All-append, All-head, All-nil, All-push, All-tail, All-weaker, Contains-get_or}
use Rattle.gl_goal.specs.declared.best.Best.{Best}
use Rattle.gl_replay.specs.declared.worker.Worker as code
use Rattle.gl_goal.specs.Best.{IsNoLess, total_of}
use Rattle.gl_goal.proofs.Totals.{less_through}

-- what comes from one worker more

pub gathered_more : {X : Type 0} (f : code.Worker → List X) (workers : List code.Worker) (i : ℕ) (worker : code.Worker) (old new : List X) → i < length workers → worker ≡ get_or workers i worker
    → old ≡ flat_map f (take i workers) → new ≡ old ++ f worker → new ≡ flat_map f (take (i + 1) workers)
gathered_more {X} f workers i worker old new below is so_far more =
    let longer : take (i + 1) workers ≡ take i workers ++ worker ∷ [] = take_more workers i worker below ∙ ap (λ (w : code.Worker). take i workers ++ w ∷ []) (sym is) in
    more ∙ ap (λ (xs : List X). xs ++ f worker) so_far
    ∙ ap (λ (xs : List X). flat_map f (take i workers) ++ xs) (sym (append-nil (f worker)))
    ∙ sym (flat_map-append f (take i workers) (worker ∷ []))
    ∙ ap (flat_map f) (sym longer)

pub gathered_all : {X : Type 0} (f : code.Worker → List X) (workers : List code.Worker) (i : ℕ) (all : List X) → length workers ≤ i → all ≡ flat_map f (take i workers) → all ≡ flat_map f workers
gathered_all f workers i all past so_far = so_far ∙ ap (flat_map f) (take_all i workers past)

-- what was kept

among_some : (all : List (Option Best)) (o : Option Best) → Contains all o → IfSome o (λ best. Contains all (Some best))
among_some all None among = tt
among_some all (Some best) among = among

pub best_among : (workers : List code.Worker) (i : ℕ) (worker : code.Worker) (best better : Option Best) → i < length workers → worker ≡ get_or workers i worker
    → IfSome best (λ b. Contains (map (λ worker. worker.kept) workers) (Some b)) → (better ≡ best) ⊎ (better ≡ worker.kept)
    → IfSome better (λ b. Contains (map (λ worker. worker.kept) workers) (Some b))
best_among workers i worker best better below at among (inl is) =
    subst (λ (o : Option Best). IfSome o (λ b. Contains (map (λ (worker : code.Worker). worker.kept) workers) (Some b))) (sym is) among
best_among workers i worker best better below at among (inr is) =
    let kept = map (λ (w : code.Worker). w.kept) workers in
    let read = get_or-map (λ (w : code.Worker). w.kept) workers i worker None below in
    let inside : i < length kept = omega (arith, length-map workers (λ (w : code.Worker). w.kept)) in
    let here = subst (Contains kept) (read ∙ ap (λ (w : code.Worker). w.kept) (sym at) ∙ sym is) (Contains-get_or kept i None inside) in
    among_some kept better here

pub no_less_more : (workers : List code.Worker) (i : ℕ) (worker : code.Worker) (best better : Option Best) → i < length workers → worker ≡ get_or workers i worker
    → All (λ worker. IsNoLess (total_of worker.kept) (total_of best)) (take i workers) → IsNoLess (total_of best) (total_of better) → IsNoLess (total_of worker.kept) (total_of better)
    → All (λ worker. IsNoLess (total_of worker.kept) (total_of better)) (take (i + 1) workers)
no_less_more workers i worker best better below at so_far no_less other =
    let P : code.Worker → Type 0 = λ w. IsNoLess (total_of w.kept) (total_of better) in
    let before = All-weaker (λ (w : code.Worker). IsNoLess (total_of w.kept) (total_of best)) P (λ w less. less_through (total_of w.kept) (total_of best) (total_of better) less no_less)
    (take i workers) so_far in
    subst (All P) (sym (take_more workers i worker below ∙ ap (λ (w : code.Worker). take i workers ++ w ∷ []) (sym at))) (All-push P (take i workers) worker before other)

pub no_less_all : (workers : List code.Worker) (i : ℕ) (best : Option Best) → length workers ≤ i → All (λ worker. IsNoLess (total_of worker.kept) (total_of best)) (take i workers)
    → All (λ worker. IsNoLess (total_of worker.kept) (total_of best)) workers
no_less_all workers i best past so_far =
    subst (All (λ (worker : code.Worker). IsNoLess (total_of worker.kept) (total_of best))) (take_all i workers past) so_far

-- what holds of all that is gathered

pub all_flat : {X Y : Type 0} (P : Y → Type 0) (f : X → List Y) (xs : List X) → All (λ x. All P (f x)) xs → All P (flat_map f xs)
all_flat P f [] all = All-nil P
all_flat {X} P f (x ∷ xs) all =
    let Q : X → Type 0 = λ x. All P (f x) in
    All-append P (f x) (flat_map f xs) (All-head Q x xs all) (all_flat P f xs (All-tail Q x xs all))

-- what stands behind others, one after another
pub mapped_more : {A B : Type 0} (f : A → B) (xs : List A) (i : ℕ) (x : A) (start old new : List B) → i < length xs → x ≡ get_or xs i x → old ≡ start ++ map f (take i xs) → new ≡ old ++ f x ∷ []
    → new ≡ start ++ map f (take (i + 1) xs)
mapped_more {A} {B} f xs i x start old new below is so_far more =
    let longer : map f (take (i + 1) xs) ≡ map f (take i xs) ++ f x ∷ [] =
    ap (map f) (take_more xs i x below ∙ ap (λ (y : A). take i xs ++ y ∷ []) (sym is)) ∙ map-append f (take i xs) (x ∷ []) in
    more ∙ ap (λ (ys : List B). ys ++ f x ∷ []) so_far ∙ append_assoc start (map f (take i xs)) (f x ∷ []) ∙ ap (λ (ys : List B). start ++ ys) (sym longer)

pub mapped_all : {A B : Type 0} (f : A → B) (xs : List A) (i : ℕ) (start all : List B) → length xs ≤ i → all ≡ start ++ map f (take i xs) → all ≡ start ++ map f xs
mapped_all {A} {B} f xs i start all past so_far = so_far ∙ ap (λ (ys : List A). start ++ map f ys) (take_all i xs past)
