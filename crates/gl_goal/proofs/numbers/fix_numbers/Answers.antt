use Rattle.std.proofs.Common.{◌∙◌, sym, ap, ℕ, ◌<◌, ◌≤◌, length, arith}
use Rattle.std.proofs.lemmas.List.{take_all}
use Rattle.gl_box.specs.Tuple.{places_of}
use Rattle.gl_box.proofs.Spans.{get_or-places_of, length-places_of}
use Rattle.gl_goal.specs.Goal.{chosen, fix_at}
use Rattle.gl_goal.proofs.Tuples.{place_at, chosen-nothing, numbers_more}
use Rattle.gl_goal.proofs.numbers.fix_numbers.Goals as goal

pub loop-axis-init : goal.loop-axis-init
loop-axis-init g c = c.in_ok-numbers.ensures.items ∙ sym (chosen-nothing (g.G.Goal.rule c.args.goal.now).axes)

pub fix-requires-clause-axis_in : goal.fix-requires-clause-axis_in
fix-requires-clause-axis_in g c =
    let tuple = c.args.tuple.now in
    let inside : c.loop-axis.axis < length (places_of tuple) = omega (arith, length-places_of tuple, c.loop-axis-test.true) in
    (place_at (g.G.Goal.rule c.args.goal.now).axes (places_of tuple) c.loop-axis.axis c.requires inside).0

pub fix-requires-clause-place_in : goal.fix-requires-clause-place_in
fix-requires-clause-place_in g c =
    let tuple = c.args.tuple.now in
    let inside : c.loop-axis.axis < length (places_of tuple) = omega (arith, length-places_of tuple, c.loop-axis-test.true) in
    let there = (place_at (g.G.Goal.rule c.args.goal.now).axes (places_of tuple) c.loop-axis.axis c.requires inside).1 in
    omega (arith, there, get_or-places_of tuple c.loop-axis.axis c.loop-axis-test.true)

pub loop-axis-preserved : goal.loop-axis-preserved
loop-axis-preserved g c =
    let tuple = c.args.tuple.now in
    let axes = (g.G.Goal.rule c.args.goal.now).axes in
    let axis = c.loop-axis.axis in
    let inside : axis < length (places_of tuple) = omega (arith, length-places_of tuple, c.loop-axis-test.true) in
    let fix = c.fix.ensures ∙ sym (ap (λ (place : ℕ). fix_at axes axis place) (get_or-places_of tuple axis c.loop-axis-test.true)) in
    numbers_more axes (places_of tuple) c.loop-axis.numbers.items c.push.new.self.items axis c.fix.result c.requires inside c.loop-axis.invariant fix c.in_ok-push.ensures.items

pub returns : goal.returns
returns g c =
    let tuple = c.args.tuple.now in
    let all : length (places_of tuple) ≤ c.loop-axis.axis = omega (arith, length-places_of tuple, c.loop-axis-test.false) in
    c.loop-axis.invariant ∙ ap (chosen (g.G.Goal.rule c.args.goal.now).axes) (take_all c.loop-axis.axis (places_of tuple) all)
