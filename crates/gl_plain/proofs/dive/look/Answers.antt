use Rattle.std.proofs.Common.{take}
use Rattle.gl_box.specs.Cell.{Covers, spans_of}
use Rattle.gl_box.proofs.Nodes.{covers_lower, covers_through, covers_upper}
use Rattle.gl_goal.specs.Goal.{whole_cell}
use Rattle.gl_plain.proofs.Places.{lowest_tuple, tuple_along, within_some}
use Rattle.gl_plain.proofs.dive.look.Goals as goal

pub consider-requires-clause-fits : goal.consider-requires-clause-fits
consider-requires-clause-fits g c =
    let rule = g.G.Goal.rule c.args.goal.now in
    let goal = g.met.G.Goal.laws c.args.goal.now in
    let cell = c.args.cell.now in
    tuple_along rule.axes _ _ c.lowest.ensures (lowest_tuple rule.axes (take cell.axes cell.spans) goal.some_fix c.requires.covers)

pub tested-low-requires-clause-covers : goal.tested-low-requires-clause-covers
tested-low-requires-clause-covers g c =
    let rule = g.G.Goal.rule c.args.goal.now in
    covers_through (whole_cell rule.axes) (spans_of c.args.cell.now) (spans_of c.in-Some.lower) c.requires.covers (covers_lower _ _ _ c.in-Some.ensures.halves)

pub tested-high-requires-clause-covers : goal.tested-high-requires-clause-covers
tested-high-requires-clause-covers g c =
    let rule = g.G.Goal.rule c.args.goal.now in
    covers_through (whole_cell rule.axes) (spans_of c.args.cell.now) (spans_of c.in-Some.upper) c.requires.covers (covers_upper _ _ _ c.in-Some.ensures.halves)

pub returns-then-is_greater-clause-within : goal.returns-then-is_greater-clause-within
returns-then-is_greater-clause-within g c =
    let rule = g.G.Goal.rule c.args.goal.now in
    let whole = whole_cell rule.axes in
    let low : Covers whole (spans_of c.in-Some.lower) = covers_through whole (spans_of c.args.cell.now) (spans_of c.in-Some.lower) c.requires.covers (covers_lower _ _ _ c.in-Some.ensures.halves) in
    let high : Covers whole (spans_of c.in-Some.upper) = covers_through whole (spans_of c.args.cell.now) (spans_of c.in-Some.upper) c.requires.covers (covers_upper _ _ _ c.in-Some.ensures.halves) in
    let first = within_some rule _ c.push_some.new.candidates.items c.tested-high.result c.in-Some.upper c.requires.within high c.tested-high.ensures.cell c.in_ok-push_some.ensures.ok in
    within_some rule c.push_some.new.candidates.items _ c.tested-low.result c.in-Some.lower first low c.tested-low.ensures.cell c.in_ok-push_some-2.ensures.ok

pub returns-clause-within : goal.returns-clause-within
returns-clause-within g c =
    let rule = g.G.Goal.rule c.args.goal.now in
    let whole = whole_cell rule.axes in
    let low : Covers whole (spans_of c.in-Some.lower) = covers_through whole (spans_of c.args.cell.now) (spans_of c.in-Some.lower) c.requires.covers (covers_lower _ _ _ c.in-Some.ensures.halves) in
    let high : Covers whole (spans_of c.in-Some.upper) = covers_through whole (spans_of c.args.cell.now) (spans_of c.in-Some.upper) c.requires.covers (covers_upper _ _ _ c.in-Some.ensures.halves) in
    let first = within_some rule _ c.push_some-2.new.candidates.items c.tested-low.result c.in-Some.lower c.requires.within low c.tested-low.ensures.cell c.in_ok-push_some-3.ensures.ok in
    within_some rule c.push_some-2.new.candidates.items _ c.tested-high.result c.in-Some.upper first high c.tested-high.ensures.cell c.in_ok-push_some-4.ensures.ok
