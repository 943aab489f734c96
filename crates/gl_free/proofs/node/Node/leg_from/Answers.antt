use Rattle.gl_box.specs.Cell.{ends}
use Rattle.gl_free.proofs.PlaceLemmas.{leg-most}
use Rattle.gl_free.proofs.node.Node.leg_from.Goals as goal

pub returns-clause-most : goal.returns-clause-most
returns-clause-most c =
    leg-most c.args.hulls.now (ends c.args.span) (ends c.args.self.now.span) c.chord_from.result c.dist.result c.chord_from.ensures.most c.dist.ensures.value
