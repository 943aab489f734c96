use Rattle.std.proofs.Common.{◌∙◌, sym, subst, List}
use Rattle.gl_igc.specs.declared.fix.Fix.{Fix}
use Rattle.gl_free.specs.Code.Halves.{AreHalves}
use Rattle.gl_free.proofs.halves.search_by_place.Goals as goal

pub new-requires-2-clause-order : goal.new-requires-2-clause-order
new-requires-2-clause-order c = c.in_ok-by_place.ensures

pub middles-requires-clause-some : goal.middles-requires-clause-some
middles-requires-clause-some c = c.requires.some

pub middles-requires-clause-few : goal.middles-requires-clause-few
middles-requires-clause-few c = c.requires.few

pub middles-requires-clause-sides : goal.middles-requires-clause-sides
middles-requires-clause-sides c = c.requires.sides

pub middles-requires-clause-halves : goal.middles-requires-clause-halves
middles-requires-clause-halves c =
    let P : List Fix → Type 0 = λ fixes. AreHalves fixes c.in_ok-by_place.by_place c.args.sides.now c.in_ok-halves.halves in
    subst P (c.hulls-hulls.ensures ∙ sym c.args.goal.now.hulled) c.in_ok-halves.ensures

pub middles-requires-clause-valid : goal.middles-requires-clause-valid
middles-requires-clause-valid c = c.requires.valid

pub returns-clause-valid : goal.returns-clause-valid
returns-clause-valid c = c.middles.ensures.valid

pub returns-clause-raised : goal.returns-clause-raised
returns-clause-raised c = c.middles.ensures.raised

pub returns-clause-over : goal.returns-clause-over
returns-clause-over c = c.middles.ensures.over
