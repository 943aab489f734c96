use Rattle.std.proofs.Common.{◌∙◌, suc, ◌-◌, ◌<◌, length, ap, sym, arith}
use Rattle.gl_goal.specs.Free.{free_goal}
use Rattle.gl_goal.specs.Lemmas.Free.{length-numbers_between}
use Rattle.gl_goal.proofs.Fives.{five_axis, five-fix_at}
use Rattle.gl_goal.proofs.free_goal.FreeGoalGoal.fix.Goals as goal

pub overflow_add-result : goal.overflow_add-result
unfolding free_goal
overflow_add-result c =
    let g = c.args.self.now in
    let size = ap length (five_axis g.first g.last c.args.axis c.requires.axis_in) ∙ length-numbers_between g.first g.last in
    omega (arith, size, c.requires.place_in, g.in_order)

pub returns : goal.returns
unfolding free_goal
returns c =
    let g = c.args.self.now in
    let size = ap length (five_axis g.first g.last c.args.axis c.requires.axis_in) ∙ length-numbers_between g.first g.last in
    let inside : c.args.place < suc (g.last - g.first) = omega (arith, size, c.requires.place_in) in
    sym (five-fix_at g.first g.last c.args.axis c.args.place c.requires.axis_in inside)
