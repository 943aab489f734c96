-- What a written order of steps comes to, and what is answered once the open cells are searched.
use Rattle.std.specs.Prelude.{◌≡◌, ℕ, List, ◌++◌, length, All, Contains, IsPermutation}
use Rattle.gl_box.specs.declared.closed.Why.{Why}
use Rattle.gl_box.specs.Cell.{Covers}
use Rattle.gl_goal.specs.Goal.{Goal}
use Rattle.gl_plain.specs.Found.{boxes_of}
use Rattle.gl_replay.specs.declared.replayed.Replayed.{Replayed}
use Rattle.gl_replay.specs.declared.schedule.Step.{Step}
use Rattle.gl_replay.specs.Machine.{IsAfter, State, closed_in, open_in}
use Rattle.gl_replay.specs.Safe.{IsSafe}

-- a cell lies in one of some cells
abbrev pub LiesInOne : List (List (ℕ × ℕ)) → List (ℕ × ℕ) → Type 0
LiesInOne cells part = (cell : List (ℕ × ℕ)) × Contains cells cell × Covers cell part

-- Some workers come by some steps to one state of the machine, which is safe. Its closed cells
-- stand among the boxes with their reasons, each as often; each other box lies in a cell that was
-- open then; and the count of closed cells is told.
pub record IsReplay (goal : Goal) (workers : ℕ) (steps : List Step)
    (replayed : Replayed) : Type 0 where
  pub state : State
  pub after : IsAfter goal workers steps state
  pub only : (other : State) → IsAfter goal workers steps other → other ≡ state
  pub safe : IsSafe goal state
  pub finished : List (List (ℕ × ℕ) × Why)
  pub boxes : IsPermutation (closed_in state ++ finished) (boxes_of replayed.found)
  pub inside : All (λ box. LiesInOne (open_in state) box.0) finished
  pub by_steps : replayed.by_steps ≡ length (closed_in state)
