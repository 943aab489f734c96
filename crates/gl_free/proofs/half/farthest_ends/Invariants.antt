use Rattle.std.proofs.Common.{◌≡◌, ◌<◌, length}
use Rattle.gl_free.specs.Code.Halves.{AreFarthest}
use Rattle.gl_free.proofs.half.farthest_ends.Given as goal

abbrev pub invariant-loop-number : goal.invariant-loop-number
invariant-loop-number l = record {
  guess : l.guess < length l.hulls;
  long : length l.ends.items ≡ l.number;
  farthest : AreFarthest l.hulls l.allowed l.ends.items;
}
