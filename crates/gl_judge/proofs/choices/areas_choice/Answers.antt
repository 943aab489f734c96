use Rattle.std.proofs.Common.{ap, refl, ◌∙◌, ◌≤◌, length, take, List, arith}
use Rattle.std.proofs.lemmas.List.{length-take}
use Rattle.std.proofs.lemmas.Result.{IfOk-weaker}
use Rattle.gl_zone.specs.declared.zone.Zone.{Zone}
use Rattle.gl_judge.proofs.Tours.{areas-legal, legal-as, lists-as, lists-more, out-lists, out-tour, out_goal-as, zone_lists-as}
use Rattle.gl_judge.proofs.choices.areas_choice.Goals as goal

pub new-requires-clause-lists : goal.new-requires-clause-lists
new-requires-clause-lists c =
    let fixes = c.args.rec.now.fixes in
    let zones = take c.args.count c.args.task.now.zones in
    let out = c.requires.outlanded in
    let tour = out-tour fixes _ zones c.args.window.first c.args.judged.to _ refl out.visited.is.visited out.start.crossed.behind_judged in
    let nine : length zones ≤ 9 = omega (arith, length-take c.args.count c.args.task.now.zones, c.args.task.now.at_most_eight_zones) in
    let zones_are = ap (λ (zs : List Zone). take c.args.count zs) c.as_slice.ensures in
    let lists_are = lists-more (λ list. list.items) _ _ _ _ (c.in_ok-lists.ensures
    ∙ zone_lists-as fixes _ zones _ c.args.window.first c.args.judged.to _ c.as_slice-fixes.ensures zones_are refl) c.in_ok-push_numbers.ensures in
    lists-as fixes _ _ _ c.as_slice-fixes.ensures lists_are (out-lists fixes zones c.args.window.first c.args.judged.to tour.0 nine c.requires.to_in_list tour.1)

pub returns-clause-legal : goal.returns-clause-legal
returns-clause-legal c =
    let fixes = c.args.rec.now.fixes in
    let zones = take c.args.count c.args.task.now.zones in
    let out = c.requires.outlanded in
    let tour = out-tour fixes _ zones c.args.window.first c.args.judged.to _ refl out.visited.is.visited out.start.crossed.behind_judged in
    let zones_are = ap (λ (zs : List Zone). take c.args.count zs) c.as_slice.ensures in
    let lists_are = lists-more (λ list. list.items) _ _ _ _ (c.in_ok-lists.ensures
    ∙ zone_lists-as fixes _ zones _ c.args.window.first c.args.judged.to _ c.as_slice-fixes.ensures zones_are refl) c.in_ok-push_numbers.ensures in
    IfOk-weaker c.new.result _ _
    (λ goal rule. legal-as _ _ (rule ∙ out_goal-as fixes _ _ _ _ _ _ c.as_slice-fixes.ensures lists_are) (areas-legal fixes _ tour.0 _ _ _ tour.1))
    c.new.ensures.rule
