use Rattle.std.proofs.Common.{◌<◌, length, refl, arith}
use Rattle.gl_box.specs.Tuple.{places_of}
use Rattle.gl_goal.specs.Goal.{chosen}
use Rattle.gl_goal.specs.Lemmas.Points.{length-chosen}
use Rattle.gl_goal.proofs.Listed.{chosen-at, order_broken, order_more, order_whole, place-within}
use Rattle.gl_goal.proofs.lists.Lists.are_in_order.Goals as goal

pub number-number-requires-clause-place_in : goal.number-number-requires-clause-place_in
number-number-requires-clause-place_in c =
    place-within c.args.self.now.lists c.args.tuple.now c.loop-axis.axis c.requires (omega (arith, c.count-axis-end.ensures.count))

pub returns-then-number-before : goal.returns-then-number-before
returns-then-number-before c =
    let lists = c.args.self.now.lists in
    let below : c.loop-axis.axis < length lists = omega (arith, c.count-axis-end.ensures.count) in
    let next = chosen-at lists c.args.tuple.now c.loop-axis.axis c.number-number.result c.requires below c.number-number.ensures.value in (
      λ no. absurd (cc),
      λ order. absurd (order_broken (chosen lists (places_of c.args.tuple.now)) _ c.loop-axis.axis c.loop-axis.before c.number-number.result next c.if-number-before.true
          c.loop-axis.invariant order),
    )

pub loop-axis-preserved : goal.loop-axis-preserved
loop-axis-preserved c =
    let lists = c.args.self.now.lists in
    let below : c.loop-axis.axis < length lists = omega (arith, c.count-axis-end.ensures.count) in
    let next = chosen-at lists c.args.tuple.now c.loop-axis.axis c.number-number.result c.requires below c.number-number.ensures.value in
    order_more (chosen lists (places_of c.args.tuple.now)) _ c.loop-axis.axis c.loop-axis.before c.number-number.result next c.if-number-before.false c.loop-axis.invariant

pub returns : goal.returns
returns c =
    let numbers = chosen c.args.self.now.lists (places_of c.args.tuple.now) in (
      λ yes. order_whole numbers c.loop-axis.axis c.loop-axis.before (omega (arith, c.count-axis-end.ensures.count, length-chosen c.args.self.now.lists (places_of c.args.tuple.now) c.requires))
          c.loop-axis.invariant,
      λ order. refl,
    )
