use Rattle.std.proofs.Common.{◌≡◌, length}
use Rattle.gl_free.specs.Code.Halves.{AreWaysBy}
use Rattle.gl_free.proofs.half.ways_by.Given as goal

abbrev pub invariant-loop-number : goal.invariant-loop-number
invariant-loop-number l = record {
  long : length l.ways.items ≡ l.number;
  ways : AreWaysBy l.ends.items l.ways.items;
}
