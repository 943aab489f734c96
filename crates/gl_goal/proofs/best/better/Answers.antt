use Rattle.std.proofs.Common.{◌∙◌, sym, subst, Option}
use Rattle.std.proofs.lemmas.Bool.{false≢true}
use Rattle.gl_goal.specs.declared.best.Best.{Best}
use Rattle.gl_goal.specs.Best.{IsNoLess, total_of}
use Rattle.gl_goal.proofs.Totals.{beaten_less, unbeaten_less}
use Rattle.gl_goal.proofs.best.better.Goals as goal

pub returns-in-Some-clause-no_less : goal.returns-in-Some-clause-no_less
returns-in-Some-clause-no_less c = beaten_less c.args.one c.in-Some.known.total (c.beats.ensures.0 c.if-beats.true)

pub returns-in_default-clause-no_less_other : goal.returns-in_default-clause-no_less_other
returns-in_default-clause-no_less_other c =
    subst (λ (other : Option Best). IsNoLess (total_of other) (total_of c.args.one)) (sym c.in-Some.is)
    (unbeaten_less c.args.one c.in-Some.known.total (λ beaten. false≢true (sym c.if-beats.false ∙ c.beats.ensures.1 beaten)))
