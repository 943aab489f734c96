use Rattle.std.proofs.Common.{sym}
use Rattle.gl_box.proofs.Spans.{span_at-spans_of}
use Rattle.gl_near.proofs.measure.span_of.Goals as goal

pub returns : goal.returns
returns c = sym (span_at-spans_of c.args.cell.now c.args.axis c.index-cell-axis.result c.requires)
