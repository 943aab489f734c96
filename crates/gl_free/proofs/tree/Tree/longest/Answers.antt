use Rattle.std.proofs.Common.{◌-◌, arith}
use Rattle.gl_free.proofs.WayLemmas.{all-there, known-none}
use Rattle.gl_free.proofs.tree.Tree.longest.Goals as goal

pub consider-requires-clause-known : goal.consider-requires-clause-known
consider-requires-clause-known c = known-none c.args.floor

pub returns-clause-found : goal.returns-clause-found
returns-clause-found c =
    c.search.ensures.found c.args.floor (c.consider.ensures.found c.args.floor (record {
      within = omega (arith, c.requires.tree.some, c.requires.tree.long);
      reached = λ more. absurd (omega arith);
    }))

pub returns-clause-above : goal.returns-clause-above
returns-clause-above c from way =
    c.search.ensures.above from (all-there c.args.hulls.now c.args.by_place.now (0, c.len.result - 1) from c.requires.tree.order (omega arith) (omega (arith, c.len.ensures, c.requires.tree.some))
    (omega (arith, way.within, c.requires.tree.long))) way
