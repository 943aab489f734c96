-- The window of a flight that finished.
use Rattle.std.specs.Prelude.{ℕ, ◌≤◌, length}
use Rattle.gl_igc.specs.declared.recording.Recording.{Recording}
use Rattle.gl_task.specs.declared.task.Task.{Task}
use Rattle.gl_judge.specs.declared.outcome.Window.{Window}
use Rattle.gl_judge.specs.declared.stretch.Stretch.{Stretch}
use Rattle.gl_judge.specs.Outcome.{IsFinished}

-- a flight finished with this window
pub record HasFinished (task : Task) (recording : Recording) (window : Window) : Type 0 where
  pub judged : Stretch
  pub within : judged.to ≤ length recording.fixes
  pub seconds : ℕ
  pub finished : IsFinished task recording judged window seconds
