use Rattle.std.proofs.Common.{◌∙◌, ap, List, ◌++◌, map}
use Rattle.gl_near.specs.declared.found.NearClosed.{NearClosed}
use Rattle.gl_near.specs.Certificate.{box_of}
use Rattle.gl_near.specs.Line.{boxes_text}
use Rattle.gl_proof.specs.Kept.{Keeps}
use Rattle.gl_proof.proofs.Pieces.{keeps_behind}
use Rattle.gl_near.proofs.Written.{at_err, claim_written, keeps_same}
use Rattle.gl_near.proofs.write.push_claim.Goals as goal

pub returns-clause-ok : goal.returns-clause-ok
returns-clause-ok c =
    let claim = c.args.claim.now in
    claim_written c.args.out.now.items _ _ _ claim.best (map box_of claim.closed.items) c.in_ok-push_front_lines.ensures.ok
    (c.in_ok-push_boxes.ensures.ok ∙ ap (λ (cells : List NearClosed). c.push_front_lines.new.out.items ++ boxes_text (map box_of cells)) c.as_slice.ensures.value)
    c.in_ok-extend_from_slice.ensures.items

pub returns-in_err-push_front_lines-clause-err : goal.returns-in_err-push_front_lines-clause-err
returns-in_err-push_front_lines-clause-err c = at_err c.from_residual.result (Keeps c.args.out.now.items c.push_front_lines.new.out.items) c.in_err-push_front_lines.ensures.err

pub returns-in_err-push_boxes-clause-err : goal.returns-in_err-push_boxes-clause-err
returns-in_err-push_boxes-clause-err c =
    let out = c.args.out.now.items in
    at_err c.from_residual-in_err-push_boxes.result (Keeps out c.push_boxes.new.out.items) (keeps_behind out c.push_front_lines.new.out.items c.push_boxes.new.out.items _ c.in_ok-push_front_lines.ensures.ok c.in_err-push_boxes.ensures.err)

pub returns-in_err-extend_from_slice-clause-err : goal.returns-in_err-extend_from_slice-clause-err
returns-in_err-extend_from_slice-clause-err c =
    let out = c.args.out.now.items in
    at_err c.from_residual-in_err-extend_from_slice.result (Keeps out c.extend_from_slice.new.self.items) (keeps_behind out c.push_front_lines.new.out.items c.extend_from_slice.new.self.items _ c.in_ok-push_front_lines.ensures.ok (keeps_behind c.push_front_lines.new.out.items c.push_boxes.new.out.items c.extend_from_slice.new.self.items _ c.in_ok-push_boxes.ensures.ok (keeps_same c.push_boxes.new.out.items c.extend_from_slice.new.self.items c.in_err-extend_from_slice.ensures.items)))
