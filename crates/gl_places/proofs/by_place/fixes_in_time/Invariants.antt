use Rattle.std.proofs.Common.{◌≡◌, take}
use Rattle.gl_places.proofs.by_place.fixes_in_time.Given as goal

abbrev pub invariant-loop-number : goal.invariant-loop-number
invariant-loop-number l = l.fixes.items ≡ take l.number l.hulls
