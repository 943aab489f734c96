use Rattle.std.proofs.Common.{◌≡◌, ap, sym, subst, length, List, ℕ, slice_index_or, arith}
use Rattle.std.specs.Prelude.{All}
use Rattle.gl_free.specs.Code.Ways.{IsBranch}
use Rattle.gl_places.proofs.Orders.{numbers_below, numbers_long}
use Rattle.gl_free.proofs.WayLemmas.{branches-unknown}
use Rattle.gl_free.proofs.tree.Tree.new.Goals as goal

pub filled-branches-requires-clause-some : goal.filled-branches-requires-clause-some
filled-branches-requires-clause-some c = omega (arith, c.requires.some, ap length c.deref.ensures.value, numbers_long c.args.hulls.now c.args.by_place.now c.requires.order)

pub filled-branches-requires-clause-few : goal.filled-branches-requires-clause-few
filled-branches-requires-clause-few c = omega (arith, c.requires.few, ap length c.deref.ensures.value, numbers_long c.args.hulls.now c.args.by_place.now c.requires.order)

pub filled-branches-requires-clause-numbers : goal.filled-branches-requires-clause-numbers
filled-branches-requires-clause-numbers c k d below =
    let numbers = numbers_below c.args.hulls.now c.args.by_place.now c.requires.order k d (omega (arith, below, ap length c.deref.ensures.value)) in
    let same : slice_index_or c.deref.result.now k d ≡ slice_index_or c.args.by_place.now.numbers.items k d = ap (λ (ns : List ℕ). slice_index_or ns k d) c.deref.ensures.value in
    omega (arith, numbers, same, ap length c.deref-2.ensures.value, c.requires.long)

pub filled-branches-requires-clause-sized : goal.filled-branches-requires-clause-sized
filled-branches-requires-clause-sized c = omega (
  arith,
  c.in_ok-branches.ensures.len,
  c.in_ok-branches.branches.ok.0,
  c.len.ensures,
  c.args.ways.ok.0,
  c.requires.long,
  ap length c.deref.ensures.value,
  numbers_long c.args.hulls.now c.args.by_place.now c.requires.order,
)

pub filled-branches-requires-clause-branches : goal.filled-branches-requires-clause-branches
filled-branches-requires-clause-branches c =
    let fixes = c.args.hulls.now in
    let by_place = c.args.by_place.now in
    let all = c.in_ok-branches.ensures.items_if_clones_equal (λ y same. same) in
    subst (λ (ns : List ℕ). All (IsBranch ns c.deref-2.result.now) c.in_ok-branches.branches.items) (sym c.deref.ensures.value)
    (subst (λ (ws : List ℕ). All (IsBranch by_place.numbers.items ws) c.in_ok-branches.branches.items) (sym c.deref-2.ensures.value)
    (branches-unknown fixes by_place c.args.ways.items c.unknown.result _ c.in_ok-branches.branches.items c.requires.order c.requires.few c.requires.long c.requires.limited c.unknown.ensures.lo
    c.unknown.ensures.hi c.unknown.ensures.most all))

pub returns-clause-tree : goal.returns-clause-tree
returns-clause-tree c = record {
  some = c.requires.some;
  few = c.requires.few;
  order = c.requires.order;
  long = c.requires.long;
  limited = c.requires.limited;
  sized = omega (arith, c.filled-branches.ensures.sized, ap length c.deref.ensures.value, numbers_long c.args.hulls.now c.args.by_place.now c.requires.order);
  branches = subst (λ (ns : List ℕ). All (IsBranch ns c.args.ways.items) c.filled-branches.result.items) c.deref.ensures.value
      (subst (λ (ws : List ℕ). All (IsBranch c.deref.result.now ws) c.filled-branches.result.items) c.deref-2.ensures.value c.filled-branches.ensures.branches);
}
