use Rattle.std.proofs.Common.{sym, arith}
use Rattle.std.proofs.lemmas.List.{set_past}
use Rattle.gl_box.specs.Cell.{ends, spans_of}
use Rattle.gl_box.proofs.Spans.{length-spans_of}
use Rattle.gl_box.proofs.way.put.Goals as goal

pub returns-then-axis-cell : goal.returns-then-axis-cell
returns-then-axis-cell c = sym (set_past (spans_of c.args.cell.now) c.args.axis (ends c.args.span) (omega (arith, length-spans_of c.args.cell.now, c.if-axis-cell.true)))
