use Rattle.std.proofs.Common.{ap, [], length, arith}
use Rattle.gl_goal.proofs.Listed.{listed-axis, listed-list, listed-lists, listed-number}
use Rattle.gl_goal.proofs.lists.Lists.number.Goals as goal

pub index-requires : goal.index-requires
index-requires c =
    let axes = c.self.inside.axes in
    omega (arith, axes.ok.0, listed-axis c.self.inside.fixes.items axes.items c.args.self.now c.args.axis c.self.view_is c.requires.axis_in)

pub index-requires-2 : goal.index-requires-2
index-requires-2 c =
    let axis = c.index.result.now in
    let list = listed-list c.self.inside.fixes.items c.self.inside.axes.items c.args.self.now c.args.axis axis c.self.view_is c.index.ensures c.requires.axis_in in
    omega (arith, axis.numbers.ok.0, ap length list, c.requires.place_in)

pub returns-clause-value : goal.returns-clause-value
returns-clause-value c =
    listed-number c.self.inside.fixes.items c.self.inside.axes.items c.args.self.now c.args.axis c.index.result.now c.args.place c.index-2.result.now c.self.view_is c.index.ensures c.requires.axis_in
    c.requires.place_in c.index-2.ensures

pub returns-clause-named : goal.returns-clause-named
returns-clause-named c =
    let are = listed-lists c.self.inside.fixes.items c.self.inside.axes.items c.args.self.now c.self.view_is c.self.invariant in
    omega (arith, are.named c.args.axis [] c.requires.axis_in c.args.place 0 c.requires.place_in, returns-clause-value c)
