use Rattle.std.proofs.lemmas.Result.{on_err_weaker, on_ok_weaker}
use Rattle.gl_proof.specs.Kept.{Keeps}
use Rattle.gl_proof.proofs.Pieces.{keeps_behind}
use Rattle.gl_near.proofs.Written.{at_err, front_written, keeps_same}
use Rattle.gl_near.proofs.write.push_front_lines.Goals as goal

pub returns-in_err-extend_from_slice-clause-err : goal.returns-in_err-extend_from_slice-clause-err
returns-in_err-extend_from_slice-clause-err c =
    at_err c.from_residual.result (Keeps c.args.out.now.items c.extend_from_slice.new.self.items) (keeps_same c.args.out.now.items c.extend_from_slice.new.self.items c.in_err-extend_from_slice.ensures.items)

pub returns-clause-ok : goal.returns-clause-ok
returns-clause-ok c =
    on_ok_weaker c.push_front.result (front_written c.args.out.now.items _ _ c.args.best c.in_ok-extend_from_slice.ensures.items) c.push_front.ensures.ok

pub returns-clause-err : goal.returns-clause-err
returns-clause-err c =
    on_err_weaker c.push_front.result
    (keeps_behind c.args.out.now.items c.extend_from_slice.new.self.items c.push_front.new.out.items _ c.in_ok-extend_from_slice.ensures.items) c.push_front.ensures.err
