use Rattle.std.proofs.Common.{length, map}
use Rattle.gl_deal.specs.Tokens.{end_of}
use Rattle.gl_pool.proofs.Settling.{Settling}
use Rattle.gl_pool.proofs.settle.settle.Given as goal

abbrev pub invariant-passes : goal.invariant-passes
invariant-passes l = Settling l.fn.places l.places l.worker (map end_of l.fn.passes.items) (map end_of l.passes.items)

abbrev pub decreases-passes : goal.decreases-passes
decreases-passes l = length l.passes.items
