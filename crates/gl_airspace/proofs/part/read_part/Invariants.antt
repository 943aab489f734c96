use Rattle.std.proofs.Common.{◌+◌, ◌-◌, ◌≤◌, length, drop}
use Rattle.gl_airspace.specs.Code.Going.{IsGoing}
use Rattle.gl_airspace.specs.Volumes.{readings_of}
use Rattle.gl_airspace.proofs.part.read_part.Given as goal

-- some lines of the volume were gone over, and all of them fit
abbrev pub invariant-lines : goal.invariant-lines
invariant-lines l = record {
  within : l.part.next ≤ length l.text;
  counted : l.at + l.part.lines ≤ l.part.next;
  going : IsGoing (readings_of (drop l.at l.text)) (readings_of (drop l.part.next l.text)) l.room l.part;
}

abbrev pub decreases-lines : goal.decreases-lines
decreases-lines l = length l.text - l.part.next
