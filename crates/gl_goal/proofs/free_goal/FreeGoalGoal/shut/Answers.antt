use Rattle.std.proofs.Common.{◌∙◌, ap, sym, ℤ, w32, to_z, of_z, rules, arith}
use Rattle.std.specs.Prelude.{FitsSigned, int_lt}
use Rattle.std.proofs.lemmas.Int.{to_z-of_z}
use Rattle.gl_goal.specs.Free.{free_goal}
use Rattle.gl_goal.proofs.FreeHulls.{hull-fits}
use Rattle.gl_goal.proofs.FreeLosses.{least_loss-five}
use Rattle.gl_goal.proofs.free_goal.FreeGoalGoal.shut.Goals as goal

pub hull-first-requires : goal.hull-first-requires
unfolding free_goal
hull-first-requires c = hull-fits c.args.self.now c.args.cell.now 0 _ c.requires (omega arith)

pub hull-last-requires : goal.hull-last-requires
unfolding free_goal
hull-last-requires c = hull-fits c.args.self.now c.args.cell.now 4 _ c.requires (omega arith)

pub returns : goal.returns
unfolding free_goal
returns c =
    let g = c.args.self.now in
    let least = least_loss-five g c.args.cell.now c.index-cell-0.result c.index-cell-4.result _ _ c.requires c.hull-first.ensures.value c.hull-last.ensures.value in
    let fits : FitsSigned w32 c.least_loss.result = search rules in
    let limit : FitsSigned w32 g.loss = search rules in
    let same = to_z-of_z w32 c.least_loss.result fits ∙ c.least_loss.ensures ∙ sym least in
    let bound = to_z-of_z w32 g.loss limit in
    let found = to_z w32 (of_z w32 c.least_loss.result) in
    let both = ap (λ (z : ℤ). int_lt z found) bound ∙ ap (λ (z : ℤ). int_lt g.loss z) same in
    (λ past. sym both ∙ past, λ shut. both ∙ shut)
