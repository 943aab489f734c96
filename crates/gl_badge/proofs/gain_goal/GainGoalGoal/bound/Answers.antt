use Rattle.std.proofs.Common.{◌∙◌, length, w32, rules, arith}
use Rattle.std.specs.Prelude.{FitsSigned}
use Rattle.std.proofs.lemmas.Int.{to_z-of_z}
use Rattle.gl_badge.specs.Gain.{gain_goal, rise}
use Rattle.gl_badge.proofs.Pairs.{two-bound, two-hi_within}
use Rattle.gl_badge.proofs.gain_goal.GainGoalGoal.bound.Goals as goal

pub hull-from-requires : goal.hull-from-requires
unfolding gain_goal
hull-from-requires c =
    let g = c.args.self.now in
    two-hi_within (length g.hulls) c.args.cell.now 0 _ g.some_fix c.requires (omega arith)

pub hull-to-requires : goal.hull-to-requires
unfolding gain_goal
hull-to-requires c =
    let g = c.args.self.now in
    two-hi_within (length g.hulls) c.args.cell.now 1 _ g.some_fix c.requires (omega arith)

pub returns : goal.returns
unfolding gain_goal
returns c =
    let low = c.hull-from.result.alt_lo in
    let high = c.hull-to.result.alt_hi in
    let low_fits : FitsSigned w32 low = search rules in
    let high_fits : FitsSigned w32 high = search rules in
    let low_is = to_z-of_z w32 low low_fits in
    let high_is = to_z-of_z w32 high high_fits in
    c.rise.ensures ∙ (λ i. rise (low_is i) (high_is i))
    ∙ two-bound c.args.self.now.hulls c.args.cell.now c.index-cell-0.result c.index-cell-1.result _ _ c.requires c.hull-from.ensures.value c.hull-to.ensures.value
