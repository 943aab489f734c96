use Rattle.std.proofs.Common.{◌≡◌, map}
use Rattle.gl_deal.specs.Tokens.{end_of}
use Rattle.gl_pool.proofs.taking.steal_any.Given as goal

abbrev pub invariant-loop-index : goal.invariant-loop-index
invariant-loop-index l = map end_of l.passes ≡ map end_of l.initial.passes
