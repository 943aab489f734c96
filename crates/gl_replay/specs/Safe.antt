-- What holds of the machine whatever steps its workers make: no choice is lost or held twice, and
-- no cell is closed wrongly.
use Rattle.std.specs.Prelude.{◌≡◌, ℕ, List, ◌++◌, map, All, IfSome, Option, Some, slice_get}
use Rattle.std.specs.List.{sum_by}
use Rattle.gl_box.specs.Cell.{Holds}
use Rattle.gl_box.specs.Frontier.{IsNode, mult}
use Rattle.gl_goal.specs.Goal.{Goal, IsReached, whole_cell}
use Rattle.gl_goal.specs.Certificate.{IsClosedFor}
use Rattle.gl_replay.specs.Machine.{State, Worker, open_cells}
use Rattle.gl_goal.specs.Best.{IsNoLess}

-- the cells of a worker, open and closed
abbrev pub worker_cells : Worker → List (List (ℕ × ℕ))
worker_cells worker = open_cells worker ++ map (λ box. box.0) worker.closed

-- The cells of a worker are nodes of the whole cell. What it closed is closed by its reason for
-- what it has seen, which the best word has reached. What it kept is a legal tuple and its value,
-- which the best word has reached too.
pub record IsSafeWorker (goal : Goal) (word : Option ℕ) (worker : Worker) : Type 0 where
  pub deque : All (IsNode (whole_cell goal.axes)) worker.deque
  pub hand : IfSome worker.hand (IsNode (whole_cell goal.axes))
  pub boxes : All (λ box. IsNode (whole_cell goal.axes) box.0) worker.closed
  pub closed : All (λ box. IsClosedFor goal worker.seen box.0 box.1) worker.closed
  pub seen : IsNoLess worker.seen word
  pub kept : IfSome worker.kept (λ kept. IsReached goal kept.0 kept.1)
  pub within : IfSome worker.kept (λ kept. IsNoLess (Some kept.0) word)

-- some worker kept a tuple that is worth so much
pub record IsKept (workers : List Worker) (total : ℕ) : Type 0 where
  pub number : ℕ
  pub worker : Worker
  pub tuple : List ℕ
  pub there : slice_get workers number ≡ Some worker
  pub kept : worker.kept ≡ Some (total, tuple)

-- Each tuple lies in exactly one of the cells of all workers, and the best word is the value of a
-- tuple that a worker kept, or none was kept.
pub record IsSafe (goal : Goal) (state : State) : Type 0 where
  pub once : (tuple : List ℕ) → Holds (whole_cell goal.axes) tuple
      → sum_by (λ worker. mult (worker_cells worker) tuple) state.workers ≡ 1
  pub workers : All (IsSafeWorker goal state.word) state.workers
  pub word : (total : ℕ) → state.word ≡ Some total → IsKept state.workers total
