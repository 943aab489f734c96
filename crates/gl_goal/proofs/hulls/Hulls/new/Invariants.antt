use Rattle.std.proofs.Common.{◌≡◌, length, map, take, Some, slice_get}
use Rattle.gl_goal.proofs.hulls.Hulls.new.Given as goal

abbrev pub invariant-loop-number : goal.invariant-loop-number
invariant-loop-number l = record {
  sized : length l.picked.items ≡ l.number-index;
  picked : map Some l.picked.items ≡ map (slice_get l.fixes) (take l.number-index l.numbers);
}
