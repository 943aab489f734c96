use Rattle.std.proofs.Common.{sym, subst, arith}
use Rattle.gl_box.specs.Cell.{ends}
use Rattle.gl_free.specs.Code.Ways.{IsBranch}
use Rattle.gl_places.proofs.Orders.{hulls_long}
use Rattle.gl_free.proofs.PlaceLemmas.{chord-limited}
use Rattle.gl_free.proofs.WayLemmas.{chord-by_place, past-none}
use Rattle.gl_free.proofs.tree.Tree.most_of.Goals as goal

pub returns-then-branch-span : goal.returns-then-branch-span
returns-then-branch-span c from there way =
    (c.requires.tree.limited from 0 way.within, chord-limited c.args.hulls.now from c.args.target.now.number)

pub returns-then-is_out : goal.returns-then-is_out
returns-then-is_out c from there way =
    let is : IsBranch c.args.by_place.now.numbers.items c.args.self.now.ways.items c.index-branch.result.now =
    subst (IsBranch c.args.by_place.now.numbers.items c.args.self.now.ways.items) (sym c.index-branch.ensures)
    (c.requires.tree.branches c.slot_of.result c.index-branch.result.now (omega (arith, c.slot_of.ensures, c.requires.inside, c.requires.tree.sized))) in
    let numbers = is from (record { place = there.place; inside = (omega (arith, there.inside.0), omega (arith, there.inside.1)); within = there.within; is = there.is }) in
    let past = c.is_out.ensures.0 c.if-is_out.true in
    absurd (past-none c.args.target.now.side (ends c.index-branch.result.now.numbers)
    (ends c.point-number.result) from c.args.target.now.number numbers.0 numbers.1 c.point-number.ensures.lo c.point-number.ensures.hi past way.stands)

pub hull-requires : goal.hull-requires
hull-requires c = omega (arith, c.requires.inside, hulls_long c.args.hulls.now c.args.by_place.now c.requires.tree.order)

pub returns : goal.returns
returns c from there way =
    let is : IsBranch c.args.by_place.now.numbers.items c.args.self.now.ways.items c.index-branch.result.now =
    subst (IsBranch c.args.by_place.now.numbers.items c.args.self.now.ways.items) (sym c.index-branch.ensures)
    (c.requires.tree.branches c.slot_of.result c.index-branch.result.now (omega (arith, c.slot_of.ensures, c.requires.inside, c.requires.tree.sized))) in
    let numbers = is from (record { place = there.place; inside = (omega (arith, there.inside.0), omega (arith, there.inside.1)); within = there.within; is = there.is }) in (
      numbers.2,
      chord-by_place c.args.hulls.now c.args.by_place.now (ends c.args.span) from c.args.target.now _ _ c.max_sq.result c.requires.tree.order c.requires.inside
          (omega (arith, way.within, c.requires.tree.long)) there c.requires.target c.hull.ensures.value c.point.ensures c.max_sq.ensures.greatest,
    )
