use Rattle.std.proofs.Common.{◌≡◌, [], arith}
use Rattle.std.proofs.lemmas.List.{nil_from_length}
use Rattle.gl_goal.specs.Code.Lists.{lists_of}
use Rattle.gl_goal.proofs.Listed.{all-hulled, all-taken, hulled-more, item-listed, item-taken, none-hulled, none-taken}
use Rattle.gl_goal.proofs.lists.Lists.new.Goals as goal

pub loop-numbers-init : goal.loop-numbers-init
loop-numbers-init c =
    let axes = c.in_ok-axes.axes.items in
    let none : axes ≡ [] = c.in_ok-axes.ensures.items in
    (tt, tt, none-taken (λ list. list.items) axes _ c.args.lists.items none c.into_iter-numbers-iterator.ensures.into_iter_gives.0, none-hulled c.args.fixes.now axes none)

pub new-requires-clause-some : goal.new-requires-clause-some
new-requires-clause-some c =
    (item-listed (λ list. list.items) c.args.fixes.now (lists_of c.loop-numbers.axes.items) _ _ c.in-Some.numbers _ c.requires.lists c.loop-numbers.invariant.2 c.in-Some.ensures.steps.0).some

pub new-requires-clause-rising : goal.new-requires-clause-rising
new-requires-clause-rising c =
    (item-listed (λ list. list.items) c.args.fixes.now (lists_of c.loop-numbers.axes.items) _ _ c.in-Some.numbers _ c.requires.lists c.loop-numbers.invariant.2 c.in-Some.ensures.steps.0).rising

pub new-requires-clause-named : goal.new-requires-clause-named
new-requires-clause-named c =
    (item-listed (λ list. list.items) c.args.fixes.now (lists_of c.loop-numbers.axes.items) _ _ c.in-Some.numbers _ c.requires.lists c.loop-numbers.invariant.2 c.in-Some.ensures.steps.0).named

pub loop-numbers-preserved : goal.loop-numbers-preserved
loop-numbers-preserved c = (
  tt,
  tt,
  item-taken (λ list. list.items) c.loop-numbers.axes.items _ c.in_ok-new.field-0 _ _ c.in-Some.numbers _ c.in_ok-push.ensures.items c.in_ok-new.ensures.numbers c.loop-numbers.invariant.2
      c.in-Some.ensures.steps.0,
  hulled-more c.args.fixes.now c.loop-numbers.axes.items _ c.in_ok-new.field-0 c.in_ok-push.ensures.items c.loop-numbers.invariant.3 c.in_ok-new.ensures.hulled,
)

pub returns-clause-lists : goal.returns-clause-lists
returns-clause-lists c =
    let rest = c.loop-numbers.numbers-iterator.rest in
    let none : rest.items ≡ [] = nil_from_length rest.items (omega (arith, c.in-None.ensures.steps.0, rest.ok.0)) in
    all-taken (λ list. list.items) c.loop-numbers.axes.items rest.items _ none c.loop-numbers.invariant.2

pub invariant_of-result : goal.invariant_of-result
invariant_of-result c =
    all-hulled c.args.fixes.now c.in_ok-from_slice.field-0.items c.loop-numbers.axes.items _ c.requires.most c.in_ok-from_slice.ensures.items (returns-clause-lists c) c.requires.lists c.loop-numbers.invariant.3
