use Rattle.gl_sheet.proofs.OneOrder.{one_text}
use Rattle.gl_sheet.proofs.laws.one_sheet.Goals as goal

pub returns : goal.returns
returns c = one_text
