use Rattle.std.proofs.Common.{arith}
use Rattle.std.proofs.lemmas.List.{length-map}
use Rattle.gl_goal.specs.declared.axis.Axis.{Axis}
use Rattle.gl_goal.proofs.Listed.{listed-count, listed-lists}
use Rattle.gl_goal.proofs.lists.Lists.count.Goals as goal

pub overflow_cast-result : goal.overflow_cast-result
overflow_cast-result c =
    let axes = c.self.inside.axes in
    omega (arith, c.len.ensures, axes.ok.0, c.self.invariant.lists.ten_lists, length-map axes.items (λ (a : Axis). a.numbers.items))

pub returns-clause-count : goal.returns-clause-count
returns-clause-count c =
    let axes = c.self.inside.axes in
    omega (arith, c.len.ensures, axes.ok.0, listed-count c.self.inside.fixes.items axes.items c.args.self.now c.self.view_is)

pub returns-clause-lists : goal.returns-clause-lists
returns-clause-lists c = listed-lists c.self.inside.fixes.items c.self.inside.axes.items c.args.self.now c.self.view_is c.self.invariant
