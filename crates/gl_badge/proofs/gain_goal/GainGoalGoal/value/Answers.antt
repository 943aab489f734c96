use Rattle.std.proofs.Common.{◌∙◌, length, sym, w32, rules}
use Rattle.std.specs.Prelude.{FitsSigned}
use Rattle.std.proofs.lemmas.Int.{to_z-of_z}
use Rattle.gl_box.specs.Tuple.{places_of}
use Rattle.gl_badge.specs.Gain.{gain_goal, rise}
use Rattle.gl_badge.proofs.Pairs.{two-worth, two_chosen}
use Rattle.gl_badge.proofs.gain_goal.GainGoalGoal.value.Goals as goal

pub fix-from-requires : goal.fix-from-requires
unfolding gain_goal
fix-from-requires c =
    (two_chosen (length c.args.self.now.hulls) c.args.tuple.now c.requires).from_in

pub fix-to-requires : goal.fix-to-requires
unfolding gain_goal
fix-to-requires c =
    (two_chosen (length c.args.self.now.hulls) c.args.tuple.now c.requires).to_in

pub returns : goal.returns
unfolding gain_goal
returns c =
    let fixes = c.args.self.now.hulls in
    let tuple = c.args.tuple.now in
    let low = c.fix-from.result.now.alt in
    let high = c.fix-to.result.now.alt in
    let low_fits : FitsSigned w32 low = search rules in
    let high_fits : FitsSigned w32 high = search rules in
    let low_is = to_z-of_z w32 low low_fits in
    let high_is = to_z-of_z w32 high high_fits in
    c.rise.ensures ∙ (λ i. rise (low_is i) (high_is i))
    ∙ sym (two-worth fixes (places_of tuple) _ _ c.fix-from.result.now c.fix-to.result.now (two_chosen (length fixes) tuple c.requires) c.fix-from.ensures c.fix-to.ensures)
