use Rattle.std.proofs.lemmas.Result.{MatchResult-from_both, IfErr-weaker, IfOk-weaker}
use Rattle.gl_series.proofs.Lines.{exactly, list_told, list_unique}
use Rattle.gl_series.proofs.list.read_list.Goals as goal

pub returns-clause-only : goal.returns-clause-only
returns-clause-only c = λ series of.
    MatchResult-from_both c.list_in.result _ _
    (IfOk-weaker c.list_in.result _ _ (λ read is. list_unique c.args.text.now read series is of) c.list_in.ensures.ok)
    (IfErr-weaker c.list_in.result _ _ (λ error is. list_told c.args.text.now series error of is) c.list_in.ensures.refused)

pub returns-clause-exact : goal.returns-clause-exact
returns-clause-exact c = λ error some is. exactly c.args.text.now c.list_in.result error c.list_in.ensures.ok c.list_in.ensures.refused some is
