use Rattle.std.proofs.lemmas.Result.{err_from_is_err_and}
use Rattle.gl_words.specs.DayNames.{names_seen}
use Rattle.gl_day_claims.proofs.Commanded.{score_refused, score_right, score_stopped}
use Rattle.gl_day_claims.proofs.score.score.Goals as goal

pub returns-in-Err-clause-right : goal.returns-in-Err-clause-right
returns-in-Err-clause-right g c =
    score_refused (names_seen c.args.day) _ (g.D.Desk.told c.args.desk.now) (g.D.Desk.told c.names.new.self)
    (g.D.Desk.told c.test_score_files.new.desk) c.in-Err.halt c.answer_halt.result c.in_ok-names.ensures.reads c.in-Err.ensures.tested c.in-Err.ensures.reads c.answer_halt.ensures

pub returns-in_err-sheet-clause-stopped : goal.returns-in_err-sheet-clause-stopped
returns-in_err-sheet-clause-stopped g c =
    let p = err_from_is_err_and c.from_residual-in_err-sheet.result c.from_residual-in_err-sheet.ensures.1 in
    rw (p.1, p.2) (score_stopped (names_seen c.args.day) _ c.in-Ok.files (g.D.Desk.told c.args.desk.now) (g.D.Desk.told c.names.new.self) (g.D.Desk.told c.test_score_files.new.desk)
    (g.D.Desk.told c.score_day.new.desk) c.in_err-sheet.field-0.0 c.in_ok-names.ensures.reads c.in-Ok.ensures.tested c.in-Ok.ensures.reads c.in_err-sheet.ensures.stopped)

pub returns-clause-right : goal.returns-clause-right
returns-clause-right g c =
    score_right (names_seen c.args.day) _ c.in-Ok.files (g.D.Desk.told c.args.desk.now) (g.D.Desk.told c.names.new.self) (g.D.Desk.told c.test_score_files.new.desk)
    (g.D.Desk.told c.score_day.new.desk) c.in_ok-sheet.sheet.items c.in_ok-names.ensures.reads c.in-Ok.ensures.tested c.in-Ok.ensures.reads c.in_ok-sheet.ensures.scored
