use Rattle.std.proofs.Common.{◌≡◌, ◌≤◌, length, map}
use Rattle.gl_deal.specs.Tokens.{hand_deque}
use Rattle.gl_deal.specs.Code.Deal.{AreDealt, ArePiles}
use Rattle.gl_deal.proofs.dealing.all_passes.Given as goal

abbrev pub invariant-loop-worker : goal.invariant-loop-worker
invariant-loop-worker l = record {
  within : l.worker ≤ length l.hands;
  deques : map hand_deque l.hands ≡ map hand_deque l.initial.hands;
  dealt : AreDealt l.worker l.hands;
  count : length l.piles.items ≡ l.worker;
  piles : ArePiles (map hand_deque l.initial.hands) l.piles.items;
}
