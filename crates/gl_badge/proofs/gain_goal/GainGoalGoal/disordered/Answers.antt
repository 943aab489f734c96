use Rattle.std.proofs.Common.{length, rules}
use Rattle.gl_badge.specs.Gain.{gain_goal}
use Rattle.gl_badge.proofs.Pairs.{two-disordered, two-in_order}
use Rattle.gl_badge.proofs.gain_goal.GainGoalGoal.disordered.Goals as goal

pub returns : goal.returns
unfolding gain_goal
returns c =
    let g = c.args.self.now in
    let count = length g.hulls in
    let cell = c.args.cell.now in (
      λ before. two-disordered count cell c.index-cell-0.result c.index-cell-1.result g.some_fix c.requires (search (rules, before)),
      λ disordered. search (rules, two-in_order count cell c.index-cell-0.result c.index-cell-1.result g.some_fix c.requires disordered),
    )
