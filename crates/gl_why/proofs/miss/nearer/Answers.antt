use Rattle.gl_why.proofs.NearestLemmas.{next_nearest, still_nearest}
use Rattle.gl_why.proofs.miss.nearer.Goals as goal

pub returns-then-other-best-clause-nearest : goal.returns-then-other-best-clause-nearest
returns-then-other-best-clause-nearest c =
    next_nearest c.args.fixes.now c.args.from c.args.i c.args.to c.args.best c.args.other c.requires.after c.requires.best c.requires.other c.if-other-best.true

pub returns-else-other-best-clause-nearest : goal.returns-else-other-best-clause-nearest
returns-else-other-best-clause-nearest c =
    still_nearest c.args.fixes.now c.args.from c.args.i c.args.to c.args.best c.args.other c.requires.best c.requires.other c.if-other-best.false
