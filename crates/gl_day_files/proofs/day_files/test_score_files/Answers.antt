use Rattle.std.proofs.lemmas.Result.{err_from_is_err_and}
use Rattle.gl_words.specs.DayNames.{names_seen}
use Rattle.gl_day_files.proofs.DayTests.{score_proof_listed, score_task_missing, score_tested}
use Rattle.gl_day_files.proofs.day_files.test_score_files.Goals as goal
use Rattle.gl_desk.proofs.DeskLemmas.{HasFile-from_names}

pub returns-in_err-need-clause-tested : goal.returns-in_err-need-clause-tested
returns-in_err-need-clause-tested g c =
    let p = err_from_is_err_and c.from_residual.result c.from_residual.ensures.1 in
    rw (p.1, p.2) (score_task_missing (g.D.Desk.told c.args.desk.now).folder c.args.names.now (names_seen c.args.day) c.in_err-need.field-0.0 c.requires c.in_err-need.ensures.needed)

pub returns-in_err-need_unlisted-clause-tested : goal.returns-in_err-need_unlisted-clause-tested
returns-in_err-need_unlisted-clause-tested g c =
    let folder = (g.D.Desk.told c.args.desk.now).folder in
    let task = HasFile-from_names folder c.args.names.now c.args.day.task.now c.requires c.in_ok-need.ensures.needed in
    let p = err_from_is_err_and c.from_residual-in_err-need_unlisted.result c.from_residual-in_err-need_unlisted.ensures.1 in
    rw (p.1, p.2) (score_proof_listed folder c.args.names.now (names_seen c.args.day) c.in_err-need_unlisted.field-0.0 c.requires task c.in_err-need_unlisted.ensures.unused)

pub returns-clause-tested : goal.returns-clause-tested
returns-clause-tested g c =
    score_tested (g.D.Desk.told c.args.desk.now).folder c.args.names.now (names_seen c.args.day) c.read_day.result c.requires c.in_ok-need_unlisted.ensures.unused c.read_day.ensures.tested
