use Rattle.std.proofs.Common.{◌<◌, map}
use Rattle.gl_series.specs.Code.AddingRows.{HasNumbers}
use Rattle.gl_series.proofs.Sheets.{RowsUpTo}
use Rattle.gl_series.proofs.sheet.add_rows.Given as goal

abbrev pub invariant-loop-read : goal.invariant-loop-read
invariant-loop-read l = record {
  more : 0 < l.read-iterator.left;
  far : RowsUpTo l.fn.reader.rdr.now l.read-iterator.rdr.now l.rows.items;
  kept : HasNumbers l.numbers (map (λ row. row.number) l.rows.items);
}
