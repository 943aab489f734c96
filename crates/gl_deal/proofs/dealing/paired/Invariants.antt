use Rattle.std.proofs.Common.{◌≡◌, ◌++◌, length, map}
use Rattle.gl_deal.proofs.dealing.paired.Given as goal

abbrev pub invariant-loop-hand : goal.invariant-loop-hand
invariant-loop-hand l = record {
  same_length : length l.hand-iterator.a.rest.items ≡ length l.hand-iterator.b.rest.items;
  hands : map (λ place. place.hand) l.places.items ++ l.hand-iterator.a.rest.items ≡ l.fn.hands.items;
  piles : map (λ place. place.passes) l.places.items ++ l.hand-iterator.b.rest.items ≡ l.fn.piles.items;
}
