use Rattle.std.proofs.lemmas.Result.{err_from_is_err_and}
use Rattle.gl_series.specs.SheetText.{IsRefusedSheet}
use Rattle.gl_series.proofs.Sheets.{rows_all, rows_further, rows_none, wrong_here}
use Rattle.gl_series.proofs.sheet.add_rows.Goals as goal

pub loop-read-init : goal.loop-read-init
loop-read-init c =
    let start = c.into_iter-read-iterator.ensures.into_iter_gives in
    let rdr = c.byte_records-read-items.ensures.rdr in
    rw (start, rdr, c.requires.none) (record {
      more = c.byte_records-read-items.ensures.left;
      far = rows_none c.args.reader.now.rdr.now _ c.in_ok-read_heading.ensures.ok;
      kept = c.requires.kept;
    })

pub loop-read-preserved : goal.loop-read-preserved
loop-read-preserved c =
    let inv = c.loop-read.invariant in
    let step = rw c.in-Some.is at ((c.next.ensures.steps inv.more inv.far.behind.plain).0 inv.far.behind.ready) in
    let next = rows_further c.args.reader.now.rdr.now c.loop-read.read-iterator.rdr.now c.next.new.self.rdr.now c.loop-read.rows.items c.add_record.new.rows.items c.add_record.new.numbers c.next.new.self.left c.in-Some.read inv.far step c.in_ok-add_record.ensures.added in
    record { more = next.2; far = next.0; kept = next.1 }

pub returns-clause-ok : goal.returns-clause-ok
returns-clause-ok c =
    let inv = c.loop-read.invariant in
    let ended = rw c.in-None.is at ((c.next.ensures.steps inv.more inv.far.behind.plain).0 inv.far.behind.ready) in
    rows_all c.args.reader.now.rdr.now c.loop-read.rows.items c.loop-read.read-iterator.rdr.now c.next.new.self.rdr.now inv.far ended

pub returns-in_err-add_record-clause-refused : goal.returns-in_err-add_record-clause-refused
returns-in_err-add_record-clause-refused c =
    let inv = c.loop-read.invariant in
    let step = rw c.in-Some.is at ((c.next.ensures.steps inv.more inv.far.behind.plain).0 inv.far.behind.ready) in
    let told : IsRefusedSheet c.args.reader.now.rdr.now c.in_err-add_record.field-0.0 = wrong_here c.args.reader.now.rdr.now c.loop-read.read-iterator.rdr.now c.next.new.self.rdr.now c.loop-read.rows.items c.next.new.self.left c.in-Some.read c.in_err-add_record.field-0.0 inv.far step c.in_err-add_record.ensures.wrong in
    let told_on = err_from_is_err_and c.from_residual-in_err-add_record.result c.from_residual-in_err-add_record.ensures.1 in
    rw (told_on.1, told_on.2) told
