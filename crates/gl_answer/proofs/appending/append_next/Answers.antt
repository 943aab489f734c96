use Rattle.std.proofs.lemmas.Result.{err_from_is_err_and}
use Rattle.gl_answer.proofs.Appended.{lines_appended, lines_stopped, none_memory}
use Rattle.gl_answer.proofs.appending.append_next.Goals as goal

pub returns-in_err-more-clause-stopped : goal.returns-in_err-more-clause-stopped
returns-in_err-more-clause-stopped g c =
    let p = err_from_is_err_and c.from_residual.result c.from_residual.ensures.1 in
    rw (p.1, p.2) (none_memory c.args.file.now (g.L.LinesLeft.left c.args.lines.now) (g.D.Desk.told c.args.desk.now))

pub returns-in_err-append_piece-clause-stopped : goal.returns-in_err-append_piece-clause-stopped
returns-in_err-append_piece-clause-stopped g c =
    let p = err_from_is_err_and c.from_residual-in_err-append_piece.result c.from_residual-in_err-append_piece.ensures.1 in
    rw (p.1, p.2) (lines_stopped _ _ _ _ _ _ _ _ _ _ c.clear.ensures.items c.in_ok-more.ensures.ok c.deref.ensures.value c.in_err-append_piece.ensures.stopped)

pub returns-clause-appended : goal.returns-clause-appended
returns-clause-appended g c = lines_appended _ _ _ _ _ _ _ _ _ c.clear.ensures.items c.in_ok-more.ensures.ok c.deref.ensures.value c.in_ok-append_piece.ensures.appended
