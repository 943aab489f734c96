-- When a start opens and closes, and how it is announced.
use Rattle.std.specs.Prelude.{◌≡◌, Some, option_map, pos}
use Rattle.toml.specs.Data.{Members}
use Rattle.gl_task_file.specs.Meaning.{IsPilotStart, close_by, opens_by}
use Rattle.gl_task_file.specs.declared.times.Times.{Times}

pub record AreTimes (table : Members) (times : Times) : Type 0 where
  pub opens : option_map pos (opens_by table) ≡ Some times.opens
  pub close : option_map pos (close_by table) ≡ Some times.close
  pub pilot : IsPilotStart table times.pilot
