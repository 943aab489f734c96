use Rattle.std.proofs.Common.{◌≡◌}
use Rattle.gl_deal.specs.Tokens.{pass_deque}
use Rattle.gl_worker_examples.proofs.deques.steal.Given as goal

abbrev pub invariant-loop : goal.invariant-loop
invariant-loop l = pass_deque l.pass ≡ pass_deque l.initial.pass
