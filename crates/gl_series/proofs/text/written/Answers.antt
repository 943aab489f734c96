use Rattle.std.proofs.Common.{◌∙◌, ap, ℕ, Vec, Global}
use Rattle.csv.specs.Records.{fields_of}
use Rattle.gl_series.proofs.Texts.{not_numeric, row_written}
use Rattle.gl_series.proofs.text.written.Goals as goal

pub returns-in-Ok : goal.returns-in-Ok
returns-in-Ok c =
    let from = c.from_writer-writer.ensures in
    let writer = c.from_writer-writer.result in
    let setup = from.cfg ∙ c.new.ensures in
    let nothing = ap (λ (bytes : Vec ℕ Global). bytes.items) from.wtr ∙ c.new-2.ensures.items in
    let written = c.in_ok-write_byte_record.ensures.bytes from.fields from.wrote (not_numeric writer.cfg setup) in
    c.in-Ok.ensures.ok ∙ row_written writer.cfg writer.wtr.inner.items writer.wtr.buf _ (fields_of c.args.columns.now) setup nothing from.empty written
