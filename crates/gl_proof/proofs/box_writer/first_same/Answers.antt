use Rattle.std.proofs.Common.{sym, arith}
use Rattle.gl_proof.proofs.Stands.{equal_spans, same_more}
use Rattle.gl_proof.proofs.box_writer.first_same.Goals as goal

pub axes-preserved : goal.axes-preserved
axes-preserved c = record {
  within = omega arith;
  same = same_more c.args.spans.now c.args.others.now c.axes.first c.index-spans-first.result c.index-others-first.result (omega arith) (omega arith) c.requires
      c.index-spans-first.is c.index-others-first.is
      (equal_spans c.index-spans-first.result c.index-others-first.result (sym c.if-eq.ensures)) c.axes.invariant.same;
}
