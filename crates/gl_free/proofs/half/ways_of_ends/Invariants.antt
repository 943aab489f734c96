use Rattle.std.proofs.Common.{◌≡◌, length}
use Rattle.gl_free.specs.Code.Halves.{AreEnds}
use Rattle.gl_free.proofs.half.ways_of_ends.Given as goal

abbrev pub invariant-loop-number : goal.invariant-loop-number
invariant-loop-number l = record {
  long : length l.ways.items ≡ l.number;
  ends : AreEnds l.hulls l.allowed l.ways.items;
}
