use Rattle.std.proofs.lemmas.Result.{err_from_is_err_and}
use Rattle.gl_proof.proofs.Pieces.{keeps_behind, written_none}
use Rattle.gl_proof.proofs.lines_left.write_next.Goals as goal

pub loop-init : goal.loop-init
loop-init g c = written_none c.args.out.now.items (g.L.LinesLeft.left c.args.lines.now)

pub returns-in_err-push_line-clause-err : goal.returns-in_err-push_line-clause-err
returns-in_err-push_line-clause-err g c =
    let p = err_from_is_err_and c.from_residual.result c.from_residual.ensures.1 in
    rw p.1 (keeps_behind _ _ _ _ c.loop.invariant.text c.in_err-push_line.ensures.err)
