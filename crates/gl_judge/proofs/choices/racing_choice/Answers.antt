use Rattle.std.proofs.Common.{◌∙◌, ◌<◌, ◌+◌, arith}
use Rattle.std.proofs.lemmas.Result.{IfOk-weaker}
use Rattle.gl_judge.proofs.Tours.{legal-as, lists-as, one-list, out_goal-as, racing-legal, racing-lists}
use Rattle.gl_judge.proofs.choices.racing_choice.Goals as goal

pub new-requires-clause-lists : goal.new-requires-clause-lists
new-requires-clause-lists c =
    let from = c.first_visit.result in
    let behind = c.args.window.last + 1 in
    let some : from < behind = omega (arith, c.first_visit.ensures.judged.1, c.requires.outlanded.last) in
    let lists_are = one-list (λ list. list.items) _ _ _ c.new-lists.ensures.items c.in_ok-push_numbers.ensures in
    lists-as c.args.rec.now.fixes _ _ _ c.as_slice.ensures lists_are (racing-lists c.args.rec.now.fixes from behind some (omega (arith, c.requires.to_in_list, c.requires.outlanded.last)))

pub returns-clause-legal : goal.returns-clause-legal
returns-clause-legal c =
    let from = c.first_visit.result in
    let behind = c.args.window.last + 1 in
    let some : from < behind = omega (arith, c.first_visit.ensures.judged.1, c.requires.outlanded.last) in
    let lists_are = one-list (λ list. list.items) _ _ _ c.new-lists.ensures.items c.in_ok-push_numbers.ensures in
    IfOk-weaker c.new.result _ _
    (λ goal rule. legal-as _ _ (rule ∙ out_goal-as c.args.rec.now.fixes _ _ _ _ _ _ c.as_slice.ensures lists_are) (racing-legal c.args.rec.now.fixes from behind _ _ _ some))
    c.new.ensures.rule
