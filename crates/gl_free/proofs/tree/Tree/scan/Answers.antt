use Rattle.std.proofs.Common.{ℕ, ◌∙◌, ◌<◌, sym, subst, length, arith}
use Rattle.std.proofs.lemmas.List.{get_or_default}
use Rattle.gl_box.specs.Cell.{ends}
use Rattle.gl_places.proofs.Orders.{numbers_below, numbers_long}
use Rattle.gl_free.proofs.WayLemmas.{scan-all, scan-init, scan-next}
use Rattle.gl_free.proofs.tree.Tree.scan.Goals as goal

pub loop-place-init : goal.loop-place-init
loop-place-init c = scan-init c.args.hulls.now c.args.self.now.ways.items c.args.by_place.now.numbers.items c.args.target.now c.args.span.lo c.args.found.now c.requires.known

pub index-requires : goal.index-requires
index-requires c = omega (arith, c.requires.inside, numbers_long c.args.hulls.now c.args.by_place.now c.requires.tree.order)

pub consider-requires-clause-from : goal.consider-requires-clause-from
consider-requires-clause-from c =
    subst (λ (n : ℕ). n < length c.args.hulls.now) (sym c.index.ensures)
    (numbers_below c.args.hulls.now c.args.by_place.now c.requires.tree.order c.loop-place.place c.index.result.now
    (omega (arith, c.requires.inside, numbers_long c.args.hulls.now c.args.by_place.now c.requires.tree.order)))

pub consider-requires-clause-known : goal.consider-requires-clause-known
consider-requires-clause-known c = c.loop-place.invariant.known

pub loop-place-preserved : goal.loop-place-preserved
loop-place-preserved c =
    let numbers = c.args.by_place.now.numbers.items in
    let within : c.loop-place.place < length numbers = omega (arith, c.requires.inside, numbers_long c.args.hulls.now c.args.by_place.now c.requires.tree.order) in
    scan-next c.args.hulls.now c.args.self.now.ways.items numbers c.args.target.now c.args.span.lo c.loop-place.place c.index.result.now c.args.found.now c.loop-place.found c.consider.new.found
    (sym (c.index.ensures ∙ get_or_default numbers c.loop-place.place c.index.result.now 0 within)) c.loop-place.invariant c.consider.ensures

pub returns : goal.returns
returns c = scan-all c.args.hulls.now c.args.self.now.ways.items c.args.by_place.now.numbers.items c.args.target.now (ends c.args.span) c.loop-place.place c.args.found.now c.loop-place.found
    (omega arith) c.loop-place.invariant
