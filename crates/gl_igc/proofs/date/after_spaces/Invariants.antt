use Rattle.std.proofs.Common.{◌≡◌, ◌-◌, ◌≤◌, length, drop}
use Rattle.gl_igc.specs.Dates.{after_spaces}
use Rattle.gl_igc.proofs.date.after_spaces.Given as goal

-- what is left begins with the same text after its spaces
abbrev pub invariant-loop-at : goal.invariant-loop-at
invariant-loop-at l = record {
  same : after_spaces (drop l.at l.text) ≡ after_spaces l.text;
  within : l.at ≤ length l.text;
}

abbrev pub decreases-loop-at : goal.decreases-loop-at
decreases-loop-at l = length l.text - l.at
