use Rattle.std.proofs.Common.{◌≡◌, ◌-◌, ◌≤◌, drop, length}
use Rattle.gl_igc.specs.FirstOf.{first_of}
use Rattle.gl_text.specs.Lines.{lines_of}
use Rattle.gl_draft.specs.Heading.{said_in_line}
use Rattle.gl_draft.proofs.heading.said_in.Given as goal

-- the lines so far say nothing
abbrev pub invariant-lines : goal.invariant-lines
invariant-lines l = record {
  within : l.at ≤ length l.text;
  nothing : first_of (said_in_line l.what) (lines_of l.text) ≡ first_of (said_in_line l.what) (lines_of (drop l.at l.text));
}

abbrev pub decreases-lines : goal.decreases-lines
decreases-lines l = length l.text - l.at
