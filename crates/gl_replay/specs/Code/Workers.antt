-- What the code keeps of the machine's state, and what workers leave after some steps.
use Rattle.std.specs.Prelude.{◌≡◌, ℕ, List, map, All, IfSome, Option, None, Some, option_map}
use Rattle.gl_box.specs.Cell.{spans_of, Covers}
use Rattle.gl_box.specs.Closed.{box_of}
use Rattle.gl_box.specs.Tuple.{places_of}
use Rattle.gl_goal.specs.Goal.{Goal, whole_cell}
use Rattle.gl_replay.specs.Code.Parts.{done_in, opened_in}
use Rattle.gl_replay.specs.Machine.{IsAfter, State, closed_in, open_in, Worker}
use Rattle.gl_goal.specs.Best.{IsNoLess, IsSound, total_of}
use Rattle.gl_goal.specs.declared.best.Best.{Best}
use Rattle.gl_replay.specs.declared.machine.Machine.{Machine}
use Rattle.gl_replay.specs.declared.replayed.Left.{Left}
use Rattle.gl_replay.specs.declared.schedule.Step.{Step}
use Rattle.gl_replay.specs.declared.worker.Worker as code

-- what workers left after some steps: their open and their closed cells, and a legal tuple that is
-- worth what the best word says
pub record IsLeft (goal : Goal) (workers : ℕ) (steps : List Step) (left : Left) : Type 0 where
  pub state : State
  pub after : IsAfter goal workers steps state
  pub open_ : opened_in left.parts.items ≡ open_in state
  pub closed : done_in left.parts.items ≡ closed_in state
  pub sound : IsSound goal left.known
  pub known : IsNoLess state.word (total_of left.known)

-- the total and the places of a tuple that was kept
abbrev pub kept_of : Option Best → Option (ℕ × List ℕ)
kept_of None = None
kept_of (Some best) = Some (best.total, places_of best.tuple)

abbrev pub worker_of : code.Worker → Worker
worker_of worker = record {
  deque = map spans_of worker.deque.items;
  hand = option_map spans_of worker.hand;
  closed = map box_of worker.closed.items;
  seen = worker.seen;
  kept = kept_of worker.kept;
}

abbrev pub workers_of : List code.Worker → List Worker
workers_of workers = map worker_of workers

abbrev pub state_of : Machine → State
state_of machine = record { workers = workers_of machine.workers.items; word = machine.word }

-- the cells in the hands lie in the whole cell
abbrev pub AreCovered : Goal → List code.Worker → Type 0
AreCovered goal workers =
    All (λ worker. IfSome worker.hand (λ cell. Covers (whole_cell goal.axes) (spans_of cell)))
    workers

-- a change is made that raises a total, or none can be made and nothing changes
abbrev pub Raises : {X : Type 0} → (ℕ → X → X → Type 0) → X → X → Option ℕ → Type 0
Raises Change before after None =
    ((total : ℕ) (other : _) → Change total before other → ⊥) × (after ≡ before)
Raises Change before after (Some total) = Change total before after
