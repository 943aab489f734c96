use Rattle.std.proofs.Common.{ap, sym, ◌∙◌, ◌+◌, ◌-◌, ℕ, arith}
use Rattle.std.proofs.lemmas.Result.{IfOk-weaker}
use Rattle.gl_judge.proofs.Tours.{area-legal, area-lists, area_goal-as, finish-tour, legal-as, lists-as, zone_lists-as}
use Rattle.gl_judge.proofs.choices.area_choice.Goals as goal

pub zone_lists-requires-clause-ordered : goal.zone_lists-requires-clause-ordered
zone_lists-requires-clause-ordered c =
    let tour = finish-tour c.args.task.now c.args.rec.now c.args.window c.requires in
    omega (arith, tour.ordered, tour.behind_is, c.lead.ensures)

pub new-requires-clause-lists : goal.new-requires-clause-lists
new-requires-clause-lists c =
    let window = c.args.window in
    let tour = finish-tour c.args.task.now c.args.rec.now window c.requires in
    let lists_are = c.in_ok-lists.ensures ∙ zone_lists-as c.args.rec.now.fixes _ c.args.task.now.zones _ window.first tour.behind _ c.as_slice-fixes.ensures c.as_slice.ensures
    (ap (λ (n : ℕ). window.last + 1 - n) c.lead.ensures ∙ sym tour.behind_is) in
    lists-as _ _ _ _ c.as_slice-fixes.ensures lists_are (area-lists c.args.task.now c.args.rec.now.fixes window tour)

pub returns-clause-legal : goal.returns-clause-legal
returns-clause-legal c =
    let window = c.args.window in
    let tour = finish-tour c.args.task.now c.args.rec.now window c.requires in
    let lists_are = c.in_ok-lists.ensures ∙ zone_lists-as c.args.rec.now.fixes _ c.args.task.now.zones _ window.first tour.behind _ c.as_slice-fixes.ensures c.as_slice.ensures
    (ap (λ (n : ℕ). window.last + 1 - n) c.lead.ensures ∙ sym tour.behind_is) in
    IfOk-weaker c.new.result _ _
    (λ goal rule. legal-as _ _ (rule ∙ area_goal-as c.args.rec.now.fixes _ _ _ _ _ _ c.as_slice-fixes.ensures lists_are) (area-legal c.args.task.now c.args.rec.now.fixes window _ _ _ tour))
    c.new.ensures.rule
