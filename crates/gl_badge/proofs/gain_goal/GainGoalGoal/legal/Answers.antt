use Rattle.std.proofs.Common.{length, rules}
use Rattle.gl_box.specs.Tuple.{places_of}
use Rattle.gl_badge.specs.Gain.{gain_goal}
use Rattle.gl_badge.proofs.Pairs.{two-legal, two_chosen}
use Rattle.gl_badge.proofs.gain_goal.GainGoalGoal.legal.Goals as goal

pub returns : goal.returns
unfolding gain_goal
returns c =
    let fixes = c.args.self.now.hulls in
    let tuple = c.args.tuple.now in
    let by_order = two-legal fixes (places_of tuple) _ _ c.requires (two_chosen (length fixes) tuple c.requires) in
    (λ order. by_order.0 (search (rules, order)), λ legal. search (rules, by_order.1 legal))
