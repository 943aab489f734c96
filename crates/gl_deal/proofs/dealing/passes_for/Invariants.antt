use Rattle.std.proofs.Common.{map}
use Rattle.gl_deal.specs.Tokens.{hand_deque}
use Rattle.gl_deal.proofs.Turns.{IsTurn}
use Rattle.gl_deal.proofs.dealing.passes_for.Given as goal

abbrev pub invariant-loop-owner : goal.invariant-loop-owner
invariant-loop-owner l = IsTurn (map hand_deque l.initial.hands) l.worker l.owner l.hands l.passes.items
