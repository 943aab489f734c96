use Rattle.std.proofs.Common.{◌≡◌, sym, subst, ℕ, List, map, arith, below_more}
use Rattle.std.specs.List.{HoldsAt}
use Rattle.std.proofs.lemmas.List.{length-map}
use Rattle.std.proofs.lemmas.Result.{err_from_is_err_and}
use Rattle.gl_proof.proofs.Pieces.{keeps_behind}
use Rattle.gl_box.proofs.Passed.{holds_at}
use Rattle.gl_near.specs.declared.found.NearClosed.{NearClosed}
use Rattle.gl_near.specs.declared.found.NearWhy.{NearWhy}
use Rattle.gl_near.specs.Certificate.{box_of}
use Rattle.gl_near.specs.Line.{AreTwoSpans}
use Rattle.gl_near.proofs.Written.{box_more, box_written, two_spans}
use Rattle.gl_near.proofs.write.push_boxes.Goals as goal

pub returns-in_err-push-clause-err : goal.returns-in_err-push-clause-err
returns-in_err-push-clause-err c =
    let p = err_from_is_err_and c.from_residual.result c.from_residual.ensures.1 in
    rw p.1 (keeps_behind _ _ _ _ c.loop-closed.invariant.written c.in_err-push.ensures.err)

pub loop-closed-preserved : goal.loop-closed-preserved
loop-closed-preserved c =
    let l = c.loop-closed in
    let cells = c.args.cells.now in
    record {
      written = box_more _ _ _ cells l.closed-index c.closed-item.result c.loop-closed-test.true c.closed-item.is l.invariant.written (box_written _ _ _ _ _ c.reason_letter.ensures c.in_ok-push.ensures.ok);
      each = below_more (HoldsAt (λ (box : List (ℕ × ℕ) × NearWhy). AreTwoSpans box.0) (map box_of cells)) l.closed-index l.invariant.each
          (holds_at box_of (λ (box : List (ℕ × ℕ) × NearWhy). AreTwoSpans box.0) cells l.closed-index c.closed-item.result c.loop-closed-test.true c.closed-item.is
          (two_spans c.closed-item.result.cell (subst (λ (closed : NearClosed). closed.cell.axes ≡ 2) (sym c.closed-item.is) (c.requires l.closed-index c.closed-item.result c.loop-closed-test.true)) c.in_ok-push.ensures.spans));
    }

pub returns-clause-spans : goal.returns-clause-spans
returns-clause-spans c = λ k d below.
    c.loop-closed.invariant.each k (omega (arith, below, length-map c.args.cells.now box_of)) d
