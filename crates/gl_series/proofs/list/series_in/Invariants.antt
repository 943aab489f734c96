use Rattle.std.proofs.Common.{◌-◌, ◌≤◌, length, drop, map}
use Rattle.gl_text.specs.Lines.{lines_of}
use Rattle.gl_series.specs.Code.Adding.{SaysUpTo}
use Rattle.gl_series.specs.Code.AddingRows.{HasNumbers}
use Rattle.gl_series.proofs.list.series_in.Given as goal

-- the lines so far are those of the days and members so far
abbrev pub invariant-lines : goal.invariant-lines
invariant-lines l = record {
  kept : HasNumbers l.numbers (map (λ member. member.number) l.teams.items);
  within : l.at ≤ length l.text;
  says : SaysUpTo (lines_of (drop l.start l.text)) (lines_of (drop l.at l.text)) (record { days = l.days.items; teams = l.teams.items });
}

abbrev pub decreases-lines : goal.decreases-lines
decreases-lines l = length l.text - l.at
