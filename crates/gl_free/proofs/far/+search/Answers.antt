use Rattle.std.proofs.Common.{arith}
use Rattle.gl_free.proofs.far.+search.Goals as goal

pub reach-low-requires-clause-node : goal.reach-low-requires-clause-node
reach-low-requires-clause-node t c = c.requires.node

pub reach-high-requires-clause-node : goal.reach-high-requires-clause-node
reach-high-requires-clause-node t c = c.requires.node

pub search-requires : goal.search-requires
search-requires t c =
    let halves = c.halves.ensures in (
      omega (arith, halves.first, halves.next, halves.last, c.halves.result.0.ordered),
      (c.requires.node, (omega (arith, halves.last, c.requires.inside), (c.reach-high.ensures.reach, (c.reach-high.ensures.bound, (c.requires.limited, c.requires.reached))))),
    )

pub search-requires-then-low-high : goal.search-requires-then-low-high
search-requires-then-low-high t c =
    let halves = c.halves.ensures in (
      omega (arith, halves.first, halves.next, halves.last, c.halves.result.1.ordered),
      (
        c.requires.node,
        (
          omega (arith, halves.next, halves.last, c.halves.result.1.ordered, c.requires.inside),
          (c.reach-low.ensures.reach, (c.reach-low.ensures.bound, (c.search.ensures.limited, c.search.ensures.raises.reached))),
        ),
      ),
    )

pub search-requires-else-low-high : goal.search-requires-else-low-high
search-requires-else-low-high t c =
    let halves = c.halves.ensures in (
      omega (arith, halves.first, halves.next, halves.last, c.halves.result.1.ordered),
      (
        c.requires.node,
        (
          omega (arith, halves.next, halves.last, c.halves.result.1.ordered, c.requires.inside),
          (c.reach-low.ensures.reach, (c.reach-low.ensures.bound, (c.requires.limited, c.requires.reached))),
        ),
      ),
    )

pub search-requires-else-low-high-2 : goal.search-requires-else-low-high-2
search-requires-else-low-high-2 t c =
    let halves = c.halves.ensures in (
      omega (arith, halves.first, halves.next, halves.last, c.halves.result.0.ordered),
      (
        c.requires.node,
        (omega (arith, halves.last, c.requires.inside), (c.reach-high.ensures.reach, (c.reach-high.ensures.bound, (c.search-else-low-high.ensures.limited, c.search-else-low-high.ensures.raises.reached)))),
      ),
    )

pub returns-then-low-high-clause-limited : goal.returns-then-low-high-clause-limited
returns-then-low-high-clause-limited t c = c.search-then-low-high.ensures.limited

pub returns-else-low-high-clause-limited : goal.returns-else-low-high-clause-limited
returns-else-low-high-clause-limited t c = c.search-else-low-high-2.ensures.limited
