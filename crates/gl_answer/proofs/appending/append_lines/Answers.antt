use Rattle.std.proofs.Common.{subst}
use Rattle.std.proofs.lemmas.Result.{err_from_is_err_and}
use Rattle.gl_answer.specs.Appending.{Appends}
use Rattle.gl_answer.proofs.Appended.{first_all, first_less, first_more, first_none, first_stopped}
use Rattle.gl_answer.proofs.appending.append_lines.Goals as goal

pub returns-in_err-append_next-clause-stopped : goal.returns-in_err-append_next-clause-stopped
returns-in_err-append_next-clause-stopped g c =
    let p = err_from_is_err_and c.from_residual.result c.from_residual.ensures.1 in
    rw (p.1, p.2) (first_stopped _ _ _ _ _ _ _ c.pieces.invariant c.in_err-append_next.ensures.stopped)

pub pieces-init : goal.pieces-init
pieces-init g c = first_none _ _ _

pub pieces-preserved : goal.pieces-preserved
pieces-preserved g c =
    first_more _ _ _ _ _ _ _ c.pieces.invariant (subst (Appends c.args.file.now (g.L.LinesLeft.left c.pieces.lines) (g.L.LinesLeft.left c.append_next.new.lines) (g.D.Desk.told c.pieces.desk) (g.D.Desk.told c.append_next.new.desk))
    c.if-branch.true c.in_ok-append_next.ensures.appended)

pub pieces-smaller : goal.pieces-smaller
pieces-smaller g c =
    first_less _ _ _ _ _ (subst (Appends c.args.file.now (g.L.LinesLeft.left c.pieces.lines) (g.L.LinesLeft.left c.append_next.new.lines) (g.D.Desk.told c.pieces.desk) (g.D.Desk.told c.append_next.new.desk))
    c.if-branch.true c.in_ok-append_next.ensures.appended)

pub returns-clause-appended : goal.returns-clause-appended
returns-clause-appended g c =
    first_all _ _ _ _ _ _ _ c.pieces.invariant (subst (Appends c.args.file.now (g.L.LinesLeft.left c.pieces.lines) (g.L.LinesLeft.left c.append_next.new.lines) (g.D.Desk.told c.pieces.desk) (g.D.Desk.told c.append_next.new.desk))
    c.if-branch.false c.in_ok-append_next.ensures.appended)
