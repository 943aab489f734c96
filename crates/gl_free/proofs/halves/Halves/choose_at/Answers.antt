use Rattle.std.proofs.Common.{◌≡◌, ◌∙◌, sym, subst, List}
use Rattle.gl_igc.specs.declared.fix.Fix.{Fix}
use Rattle.gl_free.specs.Code.Halves.{AreLongest}
use Rattle.gl_free.proofs.HalfLemmas.{over-chosen}
use Rattle.gl_free.proofs.halves.Halves.choose_at.Goals as goal

pub returns-clause-over : goal.returns-clause-over
returns-clause-over c =
    let goal = c.args.goal.now in
    let same : c.hulls-hulls.result.now ≡ goal.hulls = c.hulls-hulls.ensures ∙ sym goal.hulled in
    over-chosen goal.hulls c.args.sides.now c.args.middle goal.loss c.args.best.now.total c.choose-low.new.best.total c.in-Some.arms c.choose-low.result c.choose-low.ensures.raised
    (subst (λ (fixes : List Fix). AreLongest fixes c.args.sides.now c.args.middle c.args.best.now.total c.in-Some.arms) same c.in-Some.ensures.longest)
    c.choose-low.ensures.chosen
