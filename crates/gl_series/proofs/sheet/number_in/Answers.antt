use Rattle.csv.specs.Records.{fields_of}
use Rattle.gl_series.specs.SheetText.{field_of}
use Rattle.gl_series.proofs.Members.{not_number}
use Rattle.gl_series.proofs.sheet.number_in.Goals as goal

pub returns-in_err-number : goal.returns-in_err-number
returns-in_err-number c =
    not_number c.from_residual.result _ (field_of (fields_of c.args.columns.now) 1) c.field.result.now c.from_residual.ensures c.field.ensures c.in_err-number.ensures
