-- The machine of interleavings: workers that search together, one step at a time, in any written
-- order. Its cells, boxes and tuples are plain lists, so that it says nothing of how they are kept.
use Rattle.std.specs.Prelude.{◌≡◌, ◌≢◌, ℕ, ◌-◌, ◌<◌, ◌≤◌, ◌⊎◌, max, List, [], ◌∷◌, ◌++◌, IsTrue, IsSomeAnd, IfSome, Option, None, Some, replicate, slice_get, slice_set}
use Rattle.std.specs.List.{flat_map}
use Rattle.std.specs.Option.{option_to_list}
use Rattle.gl_box.specs.declared.closed.Why.{Why}
use Rattle.gl_box.specs.declared.closed.Why.TheVariants.{Disordered, Shut, Bound}
use Rattle.gl_box.specs.Cell.{point}
use Rattle.gl_box.specs.Halves.{AreHalves}
use Rattle.gl_goal.specs.Goal.{Goal, IsDisordered, IsOpen, IsReached, whole_cell}
use Rattle.gl_replay.specs.declared.schedule.Step.{Step}
use Rattle.gl_replay.specs.declared.schedule.Step.TheVariants.{Take, Steal, Split, Close, Look, Raise}

-- A worker: the cells of its deque, the first one first; the cell in its hand, if there is one; the
-- cells that it closed, each with its reason; the best total that it has seen; and the legal tuple
-- that it kept, with its value.
pub record Worker : Type 0 where
  pub deque : List (List (ℕ × ℕ))
  pub hand : Option (List (ℕ × ℕ))
  pub closed : List (List (ℕ × ℕ) × Why)
  pub seen : Option ℕ
  pub kept : Option (ℕ × List ℕ)

-- the workers, and the best word that all of them see
pub record State : Type 0 where
  pub workers : List Worker
  pub word : Option ℕ

-- the greater one of a total that was found, if any, and another
abbrev pub greater : Option ℕ → ℕ → Option ℕ
greater None total = Some total
greater (Some found) total = Some (max found total)

-- the last cell of the deque goes to the empty hand
pub record Takes (before after : Worker) : Type 0 where
  pub cell : List (ℕ × ℕ)
  pub rest : List (List (ℕ × ℕ))
  pub empty : before.hand ≡ None
  pub last : before.deque ≡ rest ++ cell ∷ []
  pub is : after ≡ record before { deque = rest; hand = Some cell }

-- the first cell of the victim's deque goes to the thief's empty hand
pub record Steals (number other : ℕ) (before after : List Worker) : Type 0 where
  pub thief : Worker
  pub victim : Worker
  pub cell : List (ℕ × ℕ)
  pub rest : List (List (ℕ × ℕ))
  pub another : number ≢ other
  pub is_thief : slice_get before number ≡ Some thief
  pub is_victim : slice_get before other ≡ Some victim
  pub empty : thief.hand ≡ None
  pub first : victim.deque ≡ cell ∷ rest
  pub is : after
      ≡ slice_set (slice_set before other (record victim { deque = rest })) number
      (record thief { hand = Some cell })

-- the cell in the hand is cut: its lower half stays, and its upper half goes to the end of the
-- deque
pub record Splits (before after : Worker) : Type 0 where
  pub cell : List (ℕ × ℕ)
  pub lower : List (ℕ × ℕ)
  pub upper : List (ℕ × ℕ)
  pub held : before.hand ≡ Some cell
  pub halves : AreHalves cell lower upper
  pub is : after ≡ record before { deque = before.deque ++ upper ∷ []; hand = Some lower }

-- the first reason by which a cell is closed for a total, if there is a total
abbrev pub IsFirstReason : Goal → Option ℕ → List (ℕ × ℕ) → Why → Type 0
IsFirstReason goal total cell Disordered = IsDisordered goal.axes cell
IsFirstReason goal total cell Shut =
    (IsDisordered goal.axes cell → ⊥) × IsTrue (goal.shut cell)
IsFirstReason goal total cell Bound =
    IsOpen goal cell × IsSomeAnd total (λ greatest. goal.bound cell ≤ greatest)

-- the cell in the hand is closed for the best total that the worker has seen
pub record Closes (goal : Goal) (before after : Worker) : Type 0 where
  pub cell : List (ℕ × ℕ)
  pub why : Why
  pub held : before.hand ≡ Some cell
  pub reason : IsFirstReason goal before.seen cell why
  pub is : after ≡ record before { hand = None; closed = before.closed ++ (cell, why) ∷ [] }

-- the worker sees the best word
abbrev pub Looks : Option ℕ → Worker → Worker → Type 0
Looks word before after = after ≡ record before { seen = word }

-- the worker keeps the legal tuple in its hand, which is worth so much, and has seen that
pub record Keeps (goal : Goal) (total : ℕ) (before after : Worker) : Type 0 where
  pub tuple : List ℕ
  pub held : before.hand ≡ Some (point tuple)
  pub reached : IsReached goal total tuple
  pub above : IfSome before.kept (λ kept. kept.0 < total)
  pub is : after
      ≡ record before { seen = greater before.seen total; kept = Some (total, tuple) }

-- the worker of a number acts, and the others stay
pub record Acts (Act : Worker → Worker → Type 0) (number : ℕ)
    (before after : List Worker) : Type 0 where
  pub worker : Worker
  pub changed : Worker
  pub there : slice_get before number ≡ Some worker
  pub act : Act worker changed
  pub is : after ≡ slice_set before number changed

-- a step is made
abbrev pub Makes : Goal → Step → State → State → Type 0
Makes goal (Take worker) before after =
    Acts Takes worker before.workers after.workers × (after.word ≡ before.word)
Makes goal (Steal worker victim) before after =
    Steals worker victim before.workers after.workers × (after.word ≡ before.word)
Makes goal (Split worker) before after =
    Acts Splits worker before.workers after.workers × (after.word ≡ before.word)
Makes goal (Close worker) before after =
    Acts (Closes goal) worker before.workers after.workers × (after.word ≡ before.word)
Makes goal (Look worker) before after =
    Acts (Looks before.word) worker before.workers after.workers × (after.word ≡ before.word)
Makes goal (Raise worker) before after =
    (total : ℕ) × Acts (Keeps goal total) worker before.workers after.workers
    × (after.word ≡ greater before.word total)

-- a change is made, or it can't be made and nothing changes
abbrev pub Tries : {X : Type 0} → (X → X → Type 0) → X → X → Type 0
Tries Change before after =
    Change before after ⊎ (((other : _) → Change before other → ⊥) × (after ≡ before))

-- a step is made, or it can't be made and changes nothing
abbrev pub Moves : Goal → Step → State → State → Type 0
Moves goal step before after = Tries (Makes goal step) before after

-- one step after another
abbrev pub Runs : Goal → State → List Step → State → Type 0
Runs goal before [] after = after ≡ before
Runs goal before (step ∷ steps) after =
    (next : State) × Moves goal step before next × Runs goal next steps after

-- a worker that has nothing
abbrev pub idle : Worker
idle = record { deque = []; hand = None; closed = []; seen = None; kept = None }

-- at first the deque of worker 0 holds the whole cell, and that is all
abbrev pub start : Goal → ℕ → State
start goal workers = record {
  workers = record idle { deque = whole_cell goal.axes ∷ [] } ∷ replicate (workers - 1) idle;
  word = None;
}

-- the state that so many workers come to by a list of steps
abbrev pub IsAfter : Goal → ℕ → List Step → State → Type 0
IsAfter goal workers steps after = Runs goal (start goal workers) steps after

-- the cells of a worker that are open: in its deque and in its hand
abbrev pub open_cells : Worker → List (List (ℕ × ℕ))
open_cells worker = worker.deque ++ option_to_list worker.hand

-- the open cells of all workers
abbrev pub open_in : State → List (List (ℕ × ℕ))
open_in state = flat_map open_cells state.workers

-- the cells that all workers closed, with their reasons
abbrev pub closed_in : State → List (List (ℕ × ℕ) × Why)
closed_in state = flat_map (λ worker. worker.closed) state.workers
