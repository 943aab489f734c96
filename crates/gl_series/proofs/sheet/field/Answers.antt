use Rattle.csv.specs.Records.{fields_of}
use Rattle.gl_series.proofs.Sheets.{field_none, field_there}
use Rattle.gl_series.proofs.sheet.field.Goals as goal

pub returns-in-Some : goal.returns-in-Some
returns-in-Some c = field_there (fields_of c.args.columns.now) c.args.place c.in-Some.field.now (rw c.in-Some.is at c.get.ensures.value)

pub returns-in-None : goal.returns-in-None
returns-in-None c = field_none (fields_of c.args.columns.now) c.args.place (rw c.in-None.is at c.get.ensures.value)
