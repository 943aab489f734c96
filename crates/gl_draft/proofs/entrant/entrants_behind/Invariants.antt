use Rattle.std.proofs.Common.{◌≡◌, ◌≤◌, length}
use Rattle.gl_draft.specs.Recordings.{entrants_behind}
use Rattle.gl_draft.proofs.entrant.entrants_behind.Given as goal

-- those so far, and those of the recordings that are left, are those of all
abbrev pub invariant-recordings : goal.invariant-recordings
invariant-recordings l = record {
  are : entrants_behind l.initial.entrants.items l.recordings ≡ entrants_behind l.entrants.items l.left;
  more : length l.initial.entrants.items ≤ length l.entrants.items;
}

abbrev pub decreases-recordings : goal.decreases-recordings
decreases-recordings l = length l.left
