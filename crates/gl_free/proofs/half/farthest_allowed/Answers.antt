use Rattle.std.proofs.Common.{sym, subst, ℕ, Vec, Global}
use Rattle.gl_free.specs.Code.Halves.{AreEnds}
use Rattle.gl_free.proofs.HalfLemmas.{ends-limited}
use Rattle.gl_free.proofs.half.farthest_allowed.Goals as goal

pub ways_of_ends-requires : goal.ways_of_ends-requires
ways_of_ends-requires c = c.requires.few

pub new-requires-clause-some : goal.new-requires-clause-some
new-requires-clause-some c = c.requires.some

pub new-requires-clause-few : goal.new-requires-clause-few
new-requires-clause-few c = c.requires.few

pub new-requires-clause-order : goal.new-requires-clause-order
new-requires-clause-order c = c.requires.order

pub new-requires-clause-long : goal.new-requires-clause-long
new-requires-clause-long c = c.in_ok-starts.ensures.long

pub farthest_ends-requires-clause-tree : goal.farthest_ends-requires-clause-tree
farthest_ends-requires-clause-tree c = c.in_ok-tree.ensures.tree

pub returns-clause-long : goal.returns-clause-long
returns-clause-long c = c.farthest_ends.ensures.long

pub returns-clause-farthest : goal.returns-clause-farthest
returns-clause-farthest c = c.farthest_ends.ensures.farthest

pub new-requires-clause-limited : goal.new-requires-clause-limited
new-requires-clause-limited c = ends-limited c.args.hulls.now c.args.allowed.now c.in_ok-starts.starts.items c.in_ok-starts.ensures.ends

pub farthest_ends-requires-clause-ends : goal.farthest_ends-requires-clause-ends
farthest_ends-requires-clause-ends c =
    subst (λ (ways : Vec ℕ Global). AreEnds c.args.hulls.now c.args.allowed.now ways.items) (sym c.in_ok-tree.ensures.ways) c.in_ok-starts.ensures.ends
