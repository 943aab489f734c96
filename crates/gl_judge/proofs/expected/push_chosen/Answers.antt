use Rattle.std.proofs.lemmas.Result.{on_ok_weaker}
use Rattle.gl_goal.specs.AreaGoal.{area_rule}
use Rattle.gl_goal.specs.OutGoal.{out_rule}
use Rattle.gl_goal.specs.declared.any.AnyGoal.TheVariants as any
use Rattle.gl_proof.specs.declared.claim.ClaimKind.TheVariants as kind
use Rattle.gl_judge.specs.Claims.{AreChoices}
use Rattle.gl_judge.proofs.Listings.{area_flown, none_appended, not_started, one_appended, outlanded, raced}
use Rattle.gl_judge.proofs.expected.push_chosen.Goals as goal

pub returns-in_ok-goal-in-Finished-Area : goal.returns-in_ok-goal-in-Finished-Area
returns-in_ok-goal-in-Finished-Area c =
    let task = c.args.task.now in
    let fixes = c.args.rec.now.fixes in
    let flown = c.in-Finished-Area in
    let goal = c.in_ok-goal-in-Finished-Area in
    on_ok_weaker c.push_claim.result (λ is. one_appended c.args.claims.now.items c.push_claim.new.claims.items (kind.Area, any.Area goal.goal)
    (AreChoices task.kind task fixes c.args.judged c.args.outcome) is
    (area_flown task.kind task fixes c.args.judged c.args.outcome flown.window flown.seconds-0 flown.minimum-1 (area_rule goal.goal) flown.is-0 flown.is-1 goal.ensures.rule)
    goal.ensures.legal)
    c.push_claim.ensures

pub returns-in_ok-goal-in-Outlanded-default : goal.returns-in_ok-goal-in-Outlanded-default
returns-in_ok-goal-in-Outlanded-default c =
    let task = c.args.task.now in
    let fixes = c.args.rec.now.fixes in
    let flown = c.in-Outlanded-default in
    let goal = c.in_ok-goal-in-Outlanded-default in
    on_ok_weaker c.push_claim-in-Outlanded-default.result (λ is. one_appended c.args.claims.now.items c.push_claim-in-Outlanded-default.new.claims.items (kind.Out, any.Out goal.goal)
    (AreChoices task.kind task fixes c.args.judged c.args.outcome) is
    (outlanded task.kind task fixes c.args.judged c.args.outcome flown.window flown.zones (out_rule goal.goal) flown.is-0 goal.ensures.rule)
    goal.ensures.legal)
    c.push_claim-in-Outlanded-default.ensures

pub returns-in-Finished-Racing : goal.returns-in-Finished-Racing
returns-in-Finished-Racing c =
    let task = c.args.task.now in
    let fixes = c.args.rec.now.fixes in
    let flown = c.in-Finished-Racing in
    none_appended c.args.claims.now.items (AreChoices task.kind task fixes c.args.judged c.args.outcome)
    (raced task.kind task fixes c.args.judged c.args.outcome flown.field-0-0 flown.field-1-0 flown.is-0 flown.is-1)

pub returns-in-Finished-Racing-2 : goal.returns-in-Finished-Racing-2
returns-in-Finished-Racing-2 c =
    let task = c.args.task.now in
    let fixes = c.args.rec.now.fixes in
    none_appended c.args.claims.now.items (AreChoices task.kind task fixes c.args.judged c.args.outcome)
    (not_started task.kind task fixes c.args.judged c.args.outcome c.in-Finished-Racing.is-0)
