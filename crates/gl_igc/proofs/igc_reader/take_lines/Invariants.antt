use Rattle.std.proofs.Common.{◌-◌, ◌≤◌, length, drop}
use Rattle.gl_igc.specs.Code.Parts.{Takes}
use Rattle.gl_igc.proofs.igc_reader.take_lines.Given as goal

-- the lines before the place were taken
abbrev pub invariant-loop-line : goal.invariant-loop-line
invariant-loop-line l = record {
  within : l.at ≤ length l.text;
  takes : Takes l.text (drop l.at l.text) l.fn.progress l.progress;
}

abbrev pub decreases-loop-line : goal.decreases-loop-line
decreases-loop-line l = length l.text - l.at
