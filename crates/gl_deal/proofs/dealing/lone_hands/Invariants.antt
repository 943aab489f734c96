use Rattle.std.proofs.Common.{◌≡◌, All, length}
use Rattle.gl_deal.specs.Views.{new_hand}
use Rattle.gl_deal.specs.Tokens.{hand_view}
use Rattle.gl_deal.proofs.dealing.lone_hands.Given as goal

abbrev pub invariant-loop : goal.invariant-loop
invariant-loop l = record {
  count : length l.hands.items ≡ l.counter;
  alone : All (λ hand. hand_view hand ≡ new_hand 0 1) l.hands.items;
}
