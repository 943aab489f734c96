use Rattle.std.proofs.Common.{◌≡◌, ℕ, ◌-◌, ◌≤◌, List, ◌++◌, length, drop}
use Rattle.gl_text.specs.Lines.{lines_of}
use Rattle.gl_igc.specs.Progress.{StandsFor}
use Rattle.gl_igc.proofs.igc_reader.take_rest.Given as goal

-- the lines before those that are left were taken
abbrev pub invariant-loop-line : goal.invariant-loop-line
invariant-loop-line l = record {
  within : l.at ≤ length l.rest;
  taken : (before : List (List ℕ)) → StandsFor before l.fn.progress → (lines : List (List ℕ)) × (lines ++ lines_of (drop l.at l.rest) ≡ before ++ lines_of l.rest) × StandsFor lines l.progress;
}

abbrev pub decreases-loop-line : goal.decreases-loop-line
decreases-loop-line l = length l.rest - l.at
