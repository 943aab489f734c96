use Rattle.gl_proof.specs.Kept.{Keeps}
use Rattle.gl_proof.proofs.Pieces.{keeps_behind}
use Rattle.gl_near.proofs.Written.{at_err, keeps_same, least_written}
use Rattle.gl_near.proofs.write.push_least_line.Goals as goal

pub returns-clause-ok : goal.returns-clause-ok
returns-clause-ok c =
    least_written c.args.out.now.items c.extend_from_slice.new.self.items c.push_total.new.out.items c.push.new.self.items c.args.total c.in_ok-extend_from_slice.ensures.items
    c.in_ok-push_total.ensures.ok c.in_ok-push.ensures.items

pub returns-in_err-extend_from_slice-clause-err : goal.returns-in_err-extend_from_slice-clause-err
returns-in_err-extend_from_slice-clause-err c =
    let out = c.args.out.now.items in
    at_err c.from_residual.result (Keeps out c.extend_from_slice.new.self.items) (keeps_same out c.extend_from_slice.new.self.items c.in_err-extend_from_slice.ensures.items)

pub returns-in_err-push_total-clause-err : goal.returns-in_err-push_total-clause-err
returns-in_err-push_total-clause-err c =
    let out = c.args.out.now.items in
    at_err c.from_residual-in_err-push_total.result (Keeps out c.push_total.new.out.items) (keeps_behind out c.extend_from_slice.new.self.items c.push_total.new.out.items _ c.in_ok-extend_from_slice.ensures.items c.in_err-push_total.ensures.err)

pub returns-in_err-push-clause-err : goal.returns-in_err-push-clause-err
returns-in_err-push-clause-err c =
    let out = c.args.out.now.items in
    at_err c.from_residual-in_err-push.result (Keeps out c.push.new.self.items) (keeps_behind out c.extend_from_slice.new.self.items c.push.new.self.items _ c.in_ok-extend_from_slice.ensures.items (keeps_behind c.extend_from_slice.new.self.items c.push_total.new.out.items c.push.new.self.items _ c.in_ok-push_total.ensures.ok (keeps_same c.push_total.new.out.items c.push.new.self.items c.in_err-push.ensures.items)))
