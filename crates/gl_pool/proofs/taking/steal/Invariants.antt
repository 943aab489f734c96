use Rattle.std.proofs.Common.{◌≡◌, map}
use Rattle.gl_deal.specs.Tokens.{end_of}
use Rattle.gl_pool.proofs.taking.steal.Given as goal

abbrev pub invariant-loop : goal.invariant-loop
invariant-loop g l = map end_of l.passes ≡ map end_of l.initial.passes
