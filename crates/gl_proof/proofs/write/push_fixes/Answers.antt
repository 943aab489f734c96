use Rattle.std.proofs.lemmas.Result.{err_from_is_err_and}
use Rattle.gl_proof.proofs.Pieces.{keeps_behind}
use Rattle.gl_proof.proofs.write.push_fixes.Goals as goal

pub returns-in_err-push_number-clause-err : goal.returns-in_err-push_number-clause-err
returns-in_err-push_number-clause-err c =
    let p = err_from_is_err_and c.from_residual.result c.from_residual.ensures.1 in
    rw p.1 (keeps_behind _ _ _ _ c.loop-fix.invariant c.in_err-push_number.ensures.err)
