use Rattle.gl_series.proofs.Sheets.{refused_once, sheet_refused, sheet_unique}
use Rattle.gl_series.proofs.laws.one_sheet.Goals as goal

pub returns : goal.returns
returns c = record { one = sheet_unique; never_both = sheet_refused; one_reason = refused_once }
