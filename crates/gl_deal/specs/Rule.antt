-- The rule of a deque, which holds between any two steps of all threads.
use Rattle.std.specs.Prelude.{◌≡◌, ◌≢◌, ℕ, ◌+◌, ◌<◌, ◌==◌, nat_lt, cond, List, [], ◌∷◌, map, All, Contains, sum_by, count_by}
use Rattle.gl_box.specs.declared.cell.Cell.{Cell}
use Rattle.gl_deal.specs.declared.view.HandView.{HandView}
use Rattle.gl_deal.specs.declared.view.PassView.{PassView}
use Rattle.gl_deal.specs.declared.view.View.{View}
use Rattle.gl_deal.specs.declared.view.View.TheVariants.{OfHand, OfPass}

-- Each cell that was put is in the deque, or was taken by the hand, or gathered, or taken by a
-- pass: what was put weighs what these weigh together, however cells are weighed.
abbrev pub IsBalanced : List Cell → HandView → List PassView → Type 0
IsBalanced cells hand passes =
    (weight : Cell → ℕ)
    → sum_by weight hand.put
    ≡ sum_by weight cells + sum_by weight hand.taken + sum_by weight hand.gathered
    + sum_by (λ pass. sum_by weight pass.taken) passes

-- how often a worker stands in a list
abbrev pub times : ℕ → List ℕ → ℕ
times worker workers = count_by (λ other. other == worker) workers

-- The owner, the settled workers and those served by the passes are all the workers, each once
abbrev pub HasEachWorkerOnce : HandView → List PassView → Type 0
HasEachWorkerOnce hand passes =
    (worker : ℕ)
    → times worker (hand.owner ∷ hand.settled)
    + sum_by (λ pass. times worker pass.serves) passes
    ≡ cond (nat_lt worker hand.workers) 1 0

-- a pass that serves nobody has taken nothing
abbrev pub TakesForSomeone : PassView → Type 0
TakesForSomeone pass = pass.serves ≡ [] → pass.taken ≡ []

-- the rule of a deque that contains these cells, and that one hand shares with its passes
pub record IsShared (cells : List Cell) (views : List View) : Type 0 where
  pub hand : HandView
  pub passes : List PassView
  pub views_are : views ≡ OfHand hand ∷ map (λ pass. OfPass pass) passes
  pub balanced : IsBalanced cells hand passes
  pub served : HasEachWorkerOnce hand passes
  pub idle : All TakesForSomeone passes

-- the hand has gathered from all workers but the owner
abbrev pub HasSettledAll : HandView → Type 0
HasSettledAll hand =
    (worker : ℕ) → worker < hand.workers → worker ≢ hand.owner → Contains hand.settled worker

-- what was put weighs what was taken and gathered, however cells are weighed
abbrev pub TookAllItPut : HandView → Type 0
TookAllItPut hand =
    (weight : Cell → ℕ)
    → sum_by weight hand.put ≡ sum_by weight hand.taken + sum_by weight hand.gathered
