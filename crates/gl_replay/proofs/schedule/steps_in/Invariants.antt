use Rattle.std.proofs.Common.{◌≡◌, ◌-◌, ◌++◌, ◌≤◌, length, drop, map}
use Rattle.std.specs.Prelude.{All}
use Rattle.gl_text.specs.Lines.{lines_of}
use Rattle.gl_replay.specs.Schedule.{IsStep, line_of}
use Rattle.gl_replay.proofs.schedule.steps_in.Given as goal

-- the lines so far are those of the steps
abbrev pub invariant-lines : goal.invariant-lines
invariant-lines l = record {
  within : l.at ≤ length l.text;
  each : All IsStep l.steps.items;
  lines : lines_of l.text ≡ map line_of l.steps.items ++ lines_of (drop l.at l.text);
  few : length l.steps.items ≤ 1_000_000;
}

abbrev pub decreases-lines : goal.decreases-lines
decreases-lines l = length l.text - l.at
