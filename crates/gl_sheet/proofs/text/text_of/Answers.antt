use Rattle.std.proofs.Common.{sym, ap, ◌∙◌, ℕ, List, ◌++◌}
use Rattle.csv.specs.Writing.{default_writer, row_text}
use Rattle.gl_sheet.specs.Columns.{fields, heading}
use Rattle.gl_sheet.specs.Code.Line.{line_of}
use Rattle.gl_sheet.proofs.Standing.{text_more}
use Rattle.gl_sheet.proofs.text.text_of.Goals as goal

pub loop-line-preserved : goal.loop-line-preserved
loop-line-preserved c =
    let rows = c.args.rows.now in
    let line = c.line-item.result in
    let piece = row_text default_writer (fields rows (line_of line)) in
    c.in_ok-extend_from_slice.ensures.items
    ∙ ap (λ (bytes : List ℕ). c.loop-line.text.items ++ bytes) (c.deref.ensures.value ∙ c.in_ok-entrant_text.ensures)
    ∙ ap (λ (bytes : List ℕ). bytes ++ piece) c.loop-line.invariant
    ∙ sym (text_more (row_text default_writer) heading (fields rows) line_of c.args.lines.now c.loop-line.line-index line c.loop-line-test.true c.line-item.is)
