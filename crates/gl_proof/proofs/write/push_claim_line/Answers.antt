use Rattle.std.proofs.lemmas.Result.{err_from_is_err_and}
use Rattle.gl_proof.proofs.Pieces.{keeps_behind}
use Rattle.gl_proof.proofs.Appended.{claim_line_made, kept}
use Rattle.gl_proof.proofs.write.push_claim_line.Goals as goal

pub returns-in_err-extend_from_slice-clause-err : goal.returns-in_err-extend_from_slice-clause-err
returns-in_err-extend_from_slice-clause-err c =
    let p = err_from_is_err_and c.from_residual.result c.from_residual.ensures.1 in
    rw p.1 (kept c.args.out.now.items c.extend_from_slice.new.self.items c.in_err-extend_from_slice.ensures.items)

pub returns-in_err-push_word-clause-err : goal.returns-in_err-push_word-clause-err
returns-in_err-push_word-clause-err c =
    let p = err_from_is_err_and c.from_residual-in_err-push_word.result c.from_residual-in_err-push_word.ensures.1 in
    rw p.1 (keeps_behind c.args.out.now.items c.extend_from_slice.new.self.items c.push_word.new.out.items _ c.in_ok-extend_from_slice.ensures.items c.in_err-push_word.ensures.err)

pub returns-in_err-push_word-2-clause-err : goal.returns-in_err-push_word-2-clause-err
returns-in_err-push_word-2-clause-err c =
    let p = err_from_is_err_and c.from_residual-in_err-push_word-2.result c.from_residual-in_err-push_word-2.ensures.1 in
    rw p.1 (keeps_behind c.args.out.now.items c.extend_from_slice.new.self.items c.push_word-2.new.out.items _ c.in_ok-extend_from_slice.ensures.items (keeps_behind c.extend_from_slice.new.self.items c.push_word.new.out.items c.push_word-2.new.out.items _ c.in_ok-push_word.ensures.ok c.in_err-push_word-2.ensures.err))

pub returns-in_err-push_total-clause-err : goal.returns-in_err-push_total-clause-err
returns-in_err-push_total-clause-err c =
    let p = err_from_is_err_and c.from_residual-in_err-push_total.result c.from_residual-in_err-push_total.ensures.1 in
    rw p.1 (keeps_behind c.args.out.now.items c.extend_from_slice.new.self.items c.push_total.new.out.items _ c.in_ok-extend_from_slice.ensures.items (keeps_behind c.extend_from_slice.new.self.items c.push_word.new.out.items c.push_total.new.out.items _ c.in_ok-push_word.ensures.ok (keeps_behind c.push_word.new.out.items c.push_word-2.new.out.items c.push_total.new.out.items _ c.in_ok-push_word-2.ensures.ok c.in_err-push_total.ensures.err)))

pub returns-in_err-push-clause-err : goal.returns-in_err-push-clause-err
returns-in_err-push-clause-err c =
    let p = err_from_is_err_and c.from_residual-in_err-push.result c.from_residual-in_err-push.ensures.1 in
    rw p.1 (keeps_behind c.args.out.now.items c.extend_from_slice.new.self.items c.push.new.self.items _ c.in_ok-extend_from_slice.ensures.items (keeps_behind c.extend_from_slice.new.self.items c.push_word.new.out.items c.push.new.self.items _ c.in_ok-push_word.ensures.ok (keeps_behind c.push_word.new.out.items c.push_word-2.new.out.items c.push.new.self.items _ c.in_ok-push_word-2.ensures.ok (keeps_behind c.push_word-2.new.out.items c.push_total.new.out.items c.push.new.self.items _ c.in_ok-push_total.ensures.ok (kept c.push_total.new.out.items c.push.new.self.items c.in_err-push.ensures.items)))))

pub returns-clause-ok : goal.returns-clause-ok
returns-clause-ok c =
    claim_line_made c.args.out.now.items c.extend_from_slice.new.self.items c.push_word.new.out.items c.push_word-2.new.out.items c.push_total.new.out.items
    c.push.new.self.items c.args.number.now c.kind_word.result.now c.args.kind c.args.total c.in_ok-extend_from_slice.ensures.items c.in_ok-push_word.ensures.ok c.kind_word.ensures c.in_ok-push_word-2.ensures.ok c.in_ok-push_total.ensures.ok c.in_ok-push.ensures.items
