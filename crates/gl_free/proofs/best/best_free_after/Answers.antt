use Rattle.std.proofs.Common.{◌∙◌, sym, subst, List}
use Rattle.gl_igc.specs.declared.fix.Fix.{Fix}
use Rattle.gl_free.specs.Code.Ranges.{IsBetterChoice}
use Rattle.gl_free.proofs.ChoiceLemmas.{count-bounds, optimum-found}
use Rattle.gl_free.proofs.best.best_free_after.Goals as goal

pub begun-requires : goal.begun-requires
begun-requires c = (count-bounds c.args.goal.now c.hulls-hulls.result.now c.hulls-hulls.ensures).1

pub search_all-requires-clause-same : goal.search_all-requires-clause-same
search_all-requires-clause-same c = c.hulls-hulls.ensures ∙ sym c.args.goal.now.hulled

pub search_all-requires-clause-some : goal.search_all-requires-clause-some
search_all-requires-clause-some c = (count-bounds c.args.goal.now c.hulls-hulls.result.now c.hulls-hulls.ensures).0

pub search_all-requires-clause-few : goal.search_all-requires-clause-few
search_all-requires-clause-few c = (count-bounds c.args.goal.now c.hulls-hulls.result.now c.hulls-hulls.ensures).1

pub search_all-requires-clause-valid : goal.search_all-requires-clause-valid
search_all-requires-clause-valid c = c.in_ok-search.ensures.valid

pub search_all-requires-clause-flanks : goal.search_all-requires-clause-flanks
search_all-requires-clause-flanks c = c.in_ok-search.ensures.flanks

pub returns-clause-reached : goal.returns-clause-reached
returns-clause-reached c = c.in_ok-search_all.ensures.valid.reached

pub returns-clause-optimum : goal.returns-clause-optimum
returns-clause-optimum c =
    let g = c.args.goal.now in
    let best = c.search_all.new.search.best in
    let P : List Fix → Type 0 = λ list. IsBetterChoice list g.loss best.total → ⊥ in
    optimum-found g best c.in_ok-search_all.ensures.valid (subst P (c.hulls-hulls.ensures ∙ sym g.hulled) c.in_ok-search_all.ensures.best)
