use Rattle.std.proofs.Common.{◌≡◌, ◌+◌, length}
use Rattle.gl_draft.specs.Taken.{AreZonesFrom}
use Rattle.gl_draft.proofs.course.zones_of.Given as goal

-- the zones of the points so far
abbrev pub invariant-numbers : goal.invariant-numbers
invariant-numbers l = record {
  zones : AreZonesFrom l.points 1 l.zones.items;
  count : l.number ≡ length l.zones.items + 1;
}
