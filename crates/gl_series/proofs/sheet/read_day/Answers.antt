use Rattle.std.proofs.lemmas.Result.{MatchResult-from_both, IfErr-weaker, IfOk-weaker}
use Rattle.gl_series.proofs.Sheets.{exactly, sheet_told, sheet_unique}
use Rattle.gl_series.proofs.sheet.read_day.Goals as goal

pub returns-clause-only : goal.returns-clause-only
returns-clause-only c = λ sheet of.
    MatchResult-from_both c.sheet_in.result _ _
    (IfOk-weaker c.sheet_in.result _ _ (λ read is. sheet_unique c.args.text.now read sheet is of) c.sheet_in.ensures.ok)
    (IfErr-weaker c.sheet_in.result _ _ (λ error is. sheet_told c.args.text.now sheet error of is) c.sheet_in.ensures.refused)

pub returns-clause-exact : goal.returns-clause-exact
returns-clause-exact c = λ error some is. exactly c.args.text.now c.sheet_in.result error c.sheet_in.ensures.ok c.sheet_in.ensures.refused some is
