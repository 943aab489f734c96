use Rattle.std.proofs.Common.{◌<◌, get_or, length, refl, arith}
use Rattle.gl_goal.proofs.Listed.{cell-within, first_fix, first_fix-at, last_fix, last_fix-at, lists_past, lists_seen}
use Rattle.gl_goal.proofs.Seen.{seen_more}
use Rattle.gl_goal.proofs.lists.Lists.are_disordered.Goals as goal

pub number-requires-clause-place_in : goal.number-requires-clause-place_in
number-requires-clause-place_in c =
    cell-within c.args.self.now.lists c.args.cell.now c.loop-axis.axis c.index-cell-axis.result c.count-axis-end.ensures.lists.some_number c.requires (omega (arith, c.count-axis-end.ensures.count))

pub returns-then-number-latest : goal.returns-then-number-latest
returns-then-number-latest c =
    let lists = c.args.self.now.lists in
    let below : c.loop-axis.axis < length lists = omega (arith, c.count-axis-end.ensures.count) in
    let ends_at = last_fix-at lists c.args.cell.now c.loop-axis.axis _ c.number.result c.requires below c.number.ensures.value in
    (λ yes. lists_past lists c.args.cell.now c.loop-axis.axis c.loop-axis.latest c.loop-axis.invariant below (omega (arith, ends_at, c.if-number-latest.true)), λ disordered. refl)

pub number-requires-in-loop-axis-clause-place_in : goal.number-requires-in-loop-axis-clause-place_in
number-requires-in-loop-axis-clause-place_in c =
    let span = get_or c.args.cell.now.spans c.loop-axis.axis c.index-cell-axis.result in
    omega (
      arith,
      span.ordered,
      cell-within c.args.self.now.lists c.args.cell.now c.loop-axis.axis c.index-cell-axis.result c.count-axis-end.ensures.lists.some_number c.requires
          (omega (arith, c.count-axis-end.ensures.count)),
    )

pub loop-axis-preserved : goal.loop-axis-preserved
loop-axis-preserved c =
    let lists = c.args.self.now.lists in
    let cell = c.args.cell.now in
    let below : c.loop-axis.axis < length lists = omega (arith, c.count-axis-end.ensures.count) in
    let ends_at = last_fix-at lists cell c.loop-axis.axis _ c.number.result c.requires below c.number.ensures.value in
    let begins_at = first_fix-at lists cell c.loop-axis.axis _ c.number-in-loop-axis.result c.requires below c.number-in-loop-axis.ensures.value in
    seen_more (first_fix lists cell) (last_fix lists cell) c.loop-axis.axis c.loop-axis.latest c.number-in-loop-axis.result c.number.result c.max-latest.result c.loop-axis.invariant begins_at ends_at
    c.if-number-latest.false c.max-latest.ensures

pub returns : goal.returns
returns c = (
  λ no. absurd (cc),
  λ disordered. absurd (lists_seen c.args.self.now.lists c.args.cell.now c.loop-axis.axis c.loop-axis.latest c.loop-axis.invariant
      (omega (arith, c.count-axis-end.ensures.count)) disordered),
)
