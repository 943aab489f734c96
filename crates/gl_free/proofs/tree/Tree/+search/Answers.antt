use Rattle.std.proofs.Common.{inl, inr, ⊎_elim, arith}
use Rattle.gl_box.specs.Cell.{ends}
use Rattle.gl_free.specs.Code.Ways.{IsThere}
use Rattle.gl_free.proofs.WayLemmas.{beaten-above, lengthens-none, lengthens-parts, there-parts}
use Rattle.gl_free.proofs.tree.Tree.+search.Goals as goal

pub returns-then-is_beaten : goal.returns-then-is_beaten
returns-then-is_beaten t c =
    let numbers = c.args.by_place.now.numbers.items in
    let ways = c.args.self.now.ways.items in
    lengthens-none c.args.hulls.now ways c.args.target.now (IsThere numbers (ends c.args.span)) c.args.found.now c.requires.known
    (beaten-above c.args.hulls.now numbers ways c.args.target.now (ends c.args.span) c.args.most c.args.found.now.length c.requires.most (c.is_beaten.ensures.none c.if-is_beaten.true))

pub returns-then-low-high : goal.returns-then-low-high
returns-then-low-high t c =
    let numbers = c.args.by_place.now.numbers.items in
    let lower = ends c.halves.result.0 in
    let upper = ends c.halves.result.1 in
    lengthens-parts c.args.hulls.now c.args.self.now.ways.items c.args.target.now (IsThere numbers (ends c.args.span)) (IsThere numbers upper)
    (IsThere numbers lower) c.args.found.now c.search.new.found c.search-then-low-high.new.found
    (λ from there. ⊎_elim (λ (low : IsThere numbers lower from). inr low) (λ (high : IsThere numbers upper from). inl high)
    (there-parts numbers (ends c.args.span) lower upper from c.halves.ensures.first c.halves.ensures.next c.halves.ensures.last there))
    c.search.ensures c.search-then-low-high.ensures

pub returns-else-low-high : goal.returns-else-low-high
returns-else-low-high t c =
    let numbers = c.args.by_place.now.numbers.items in
    let lower = ends c.halves.result.0 in
    let upper = ends c.halves.result.1 in
    lengthens-parts c.args.hulls.now c.args.self.now.ways.items c.args.target.now (IsThere numbers (ends c.args.span)) (IsThere numbers lower)
    (IsThere numbers upper) c.args.found.now c.search-else-low-high.new.found c.search-else-low-high-2.new.found
    (λ from there. there-parts numbers (ends c.args.span) lower upper from c.halves.ensures.first c.halves.ensures.next c.halves.ensures.last there)
    c.search-else-low-high.ensures c.search-else-low-high-2.ensures

pub scan-requires-clause-tree : goal.scan-requires-clause-tree
scan-requires-clause-tree t c = c.requires.tree

pub scan-requires-clause-target : goal.scan-requires-clause-target
scan-requires-clause-target t c = c.requires.target

pub scan-requires-clause-inside : goal.scan-requires-clause-inside
scan-requires-clause-inside t c = c.requires.inside

pub scan-requires-clause-known : goal.scan-requires-clause-known
scan-requires-clause-known t c = c.requires.known

pub returns-then-width-lt-FEW : goal.returns-then-width-lt-FEW
returns-then-width-lt-FEW t c = c.scan.ensures

pub most_of-low-requires-clause-tree : goal.most_of-low-requires-clause-tree
most_of-low-requires-clause-tree t c = c.requires.tree

pub most_of-low-requires-clause-target : goal.most_of-low-requires-clause-target
most_of-low-requires-clause-target t c = c.requires.target

pub most_of-high-requires-clause-tree : goal.most_of-high-requires-clause-tree
most_of-high-requires-clause-tree t c = c.requires.tree

pub most_of-high-requires-clause-target : goal.most_of-high-requires-clause-target
most_of-high-requires-clause-target t c = c.requires.target

pub search-requires : goal.search-requires
search-requires t c =
    let halves = c.halves.ensures in (
      omega (arith, halves.first, halves.next, halves.last, c.halves.result.0.ordered),
      (c.requires.tree, (c.requires.target, (omega (arith, halves.last, c.requires.inside), (c.most_of-high.ensures, c.requires.known)))),
    )

pub search-requires-then-low-high : goal.search-requires-then-low-high
search-requires-then-low-high t c =
    let halves = c.halves.ensures in (
      omega (arith, halves.first, halves.next, halves.last, c.halves.result.1.ordered),
      (
        c.requires.tree,
        (c.requires.target, (omega (arith, halves.next, halves.last, c.halves.result.1.ordered, c.requires.inside), (c.most_of-low.ensures, c.search.ensures.known))),
      ),
    )

pub search-requires-else-low-high : goal.search-requires-else-low-high
search-requires-else-low-high t c =
    let halves = c.halves.ensures in (
      omega (arith, halves.first, halves.next, halves.last, c.halves.result.1.ordered),
      (c.requires.tree, (c.requires.target, (omega (arith, halves.next, halves.last, c.halves.result.1.ordered, c.requires.inside), (c.most_of-low.ensures, c.requires.known)))),
    )

pub search-requires-else-low-high-2 : goal.search-requires-else-low-high-2
search-requires-else-low-high-2 t c =
    let halves = c.halves.ensures in (
      omega (arith, halves.first, halves.next, halves.last, c.halves.result.0.ordered),
      (c.requires.tree, (c.requires.target, (omega (arith, halves.last, c.requires.inside), (c.most_of-high.ensures, c.search-else-low-high.ensures.known)))),
    )
