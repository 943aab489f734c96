use Rattle.std.proofs.Common.{◌∙◌, ap, sym, ℤ, ◌-ℤ◌, w32, to_z, of_z, rules}
use Rattle.std.specs.Prelude.{FitsSigned, int_le}
use Rattle.std.proofs.lemmas.Int.{to_z-of_z}
use Rattle.gl_box.specs.Tuple.{places_of}
use Rattle.gl_goal.specs.Free.{free_goal}
use Rattle.gl_goal.proofs.FreeLosses.{legal-by_loss}
use Rattle.gl_goal.proofs.free_goal.FreeGoalGoal.legal.Goals as goal

pub returns-then-are_in_order : goal.returns-then-are_in_order
unfolding free_goal
returns-then-are_in_order c =
    let g = c.args.self.now in
    let by_loss = legal-by_loss g (places_of c.args.tuple.now) c.numbers-numbers.result c.at.result.now c.at-then-are_in_order.result.now c.requires c.numbers-numbers.ensures.chosen
    (c.are_in_order.ensures.0 c.if-are_in_order.true) c.at.ensures c.at-then-are_in_order.ensures in
    let fits : FitsSigned w32 c.loss.result = search rules in
    let limit : FitsSigned w32 g.loss = search rules in
    let same = to_z-of_z w32 c.loss.result fits ∙ c.loss.ensures in
    let bound = to_z-of_z w32 g.loss limit in
    let limited = to_z w32 (of_z w32 g.loss) in
    let both = ap (λ (z : ℤ). int_le z limited) same ∙ ap (λ (z : ℤ). int_le (c.at.result.now.alt -ℤ c.at-then-are_in_order.result.now.alt) z) bound in
    (λ within. by_loss.0 (sym both ∙ within), λ legal. both ∙ by_loss.1 legal)
