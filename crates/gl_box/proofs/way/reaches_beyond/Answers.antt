use Rattle.std.proofs.Common.{arith}
use Rattle.gl_box.proofs.Spans.{length-spans_of}
use Rattle.gl_box.proofs.Ways.{beyond}
use Rattle.gl_box.proofs.way.reaches_beyond.Goals as goal

pub returns-then-cell-axis : goal.returns-then-cell-axis
returns-then-cell-axis c = λ beyond_it covers.
    beyond c.args.other.now c.args.cell.now c.args.axis c.index-other-axis.result c.index-cell-axis.result (omega (arith, length-spans_of c.args.other.now, c.if-axis-other.false)) covers c.if-cell-axis.true
