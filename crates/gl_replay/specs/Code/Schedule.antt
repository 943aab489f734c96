-- The line of a step, cut at its spaces.
use Rattle.std.specs.Prelude.{◌≡◌, ℕ, List}
use Rattle.gl_replay.specs.declared.schedule.Step.{Step}
use Rattle.gl_replay.specs.Schedule.{IsStep, line_of}

-- a line is that of a step
pub record IsLineOf (line : List ℕ) (step : Step) : Type 0 where
  pub is_step : IsStep step
  pub is : line ≡ line_of step
