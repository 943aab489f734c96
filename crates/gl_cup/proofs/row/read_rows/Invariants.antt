use Rattle.std.proofs.Common.{◌≡◌, ◌+◌, ◌-◌, ◌≤◌, ◌++◌, length, drop}
use Rattle.gl_text.specs.Lines.{lines_of}
use Rattle.gl_cup.specs.Row.{rows_from}
use Rattle.gl_cup.proofs.row.read_rows.Given as goal

-- the rows of the lines so far are kept, and those of the rest follow
abbrev pub invariant-lines : goal.invariant-lines
invariant-lines l = record {
  within : l.at ≤ length l.text;
  counted : l.number ≤ l.at;
  rows : rows_from 1 (lines_of l.text) ≡ l.rows.items ++ rows_from (l.number + 1) (lines_of (drop l.at l.text));
}

abbrev pub decreases-lines : goal.decreases-lines
decreases-lines l = length l.text - l.at
