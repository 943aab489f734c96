use Rattle.std.proofs.Common.{refl}
use Rattle.gl_pool.proofs.Answering.{answered, parts_to_order}
use Rattle.gl_pool.proofs.many.answer.Goals as goal

pub in_order-requires-clause-parts : goal.in_order-requires-clause-parts
in_order-requires-clause-parts g c = parts_to_order (g.G.Goal.rule c.args.goal.now) c.whole.result c.args.tally c.whole.ensures c.requires.all

pub returns : goal.returns
returns g c = answered (g.G.Goal.rule c.args.goal.now) c.args.word c.whole.result c.args.tally _
    (g.met.G.Goal.laws c.args.goal.now) c.whole.ensures c.requires.tally c.requires.all c.close.ensures.seen refl c.in_ok-in_order.ensures.frontier c.in_ok-in_order.ensures.permutation
