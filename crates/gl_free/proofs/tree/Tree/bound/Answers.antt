use Rattle.std.proofs.Common.{◌-◌, arith}
use Rattle.gl_free.proofs.WayLemmas.{all-there, beaten-above}
use Rattle.gl_free.proofs.tree.Tree.bound.Goals as goal

pub returns-then-most-eq0 : goal.returns-then-most-eq0
returns-then-most-eq0 c from way =
    let there = all-there c.args.hulls.now c.args.by_place.now (0, c.len.result - 1) from c.requires.tree.order (omega arith) (omega (arith, c.len.ensures, c.requires.tree.some))
    (omega (arith, way.within, c.requires.tree.long)) in
    absurd (omega (arith, (c.most_of-most.ensures from there way).0, way.some, c.if-most-eq0.true))

pub returns : goal.returns
returns c from way =
    let there = all-there c.args.hulls.now c.args.by_place.now (0, c.len.result - 1) from c.requires.tree.order (omega arith) (omega (arith, c.len.ensures, c.requires.tree.some))
    (omega (arith, way.within, c.requires.tree.long)) in
    beaten-above c.args.hulls.now c.args.by_place.now.numbers.items c.args.self.now.ways.items c.args.target.now (0, c.len.result - 1) c.most_of-most.result _ c.most_of-most.ensures
    (λ some. omega (arith, c.dist.ensures.value)) from there way
