use Rattle.std.proofs.lemmas.Result.{err_from_is_err_and}
use Rattle.gl_proof.proofs.Pieces.{keeps_behind}
use Rattle.gl_proof.proofs.Appended.{fix_line_made, kept}
use Rattle.gl_proof.proofs.write.push_fix_line.Goals as goal

pub returns-in_err-extend_from_slice-clause-err : goal.returns-in_err-extend_from_slice-clause-err
returns-in_err-extend_from_slice-clause-err c =
    let p = err_from_is_err_and c.from_residual.result c.from_residual.ensures.1 in
    rw p.1 (kept c.args.out.now.items c.extend_from_slice.new.self.items c.in_err-extend_from_slice.ensures.items)

pub returns-in_err-push_fixes-clause-err : goal.returns-in_err-push_fixes-clause-err
returns-in_err-push_fixes-clause-err c =
    let p = err_from_is_err_and c.from_residual-in_err-push_fixes.result c.from_residual-in_err-push_fixes.ensures.1 in
    rw p.1 (keeps_behind c.args.out.now.items c.extend_from_slice.new.self.items c.push_fixes.new.out.items _ c.in_ok-extend_from_slice.ensures.items c.in_err-push_fixes.ensures.err)

pub returns-in_err-push-clause-err : goal.returns-in_err-push-clause-err
returns-in_err-push-clause-err c =
    let p = err_from_is_err_and c.from_residual-in_err-push.result c.from_residual-in_err-push.ensures.1 in
    rw p.1 (keeps_behind c.args.out.now.items c.extend_from_slice.new.self.items c.push.new.self.items _ c.in_ok-extend_from_slice.ensures.items (keeps_behind c.extend_from_slice.new.self.items c.push_fixes.new.out.items c.push.new.self.items _ c.in_ok-push_fixes.ensures.ok (kept c.push_fixes.new.out.items c.push.new.self.items c.in_err-push.ensures.items)))

pub returns-clause-ok : goal.returns-clause-ok
returns-clause-ok c =
    fix_line_made c.args.out.now.items c.extend_from_slice.new.self.items c.push_fixes.new.out.items c.push.new.self.items c.args.fixes.now c.in_ok-extend_from_slice.ensures.items c.in_ok-push_fixes.ensures.ok c.in_ok-push.ensures.items
