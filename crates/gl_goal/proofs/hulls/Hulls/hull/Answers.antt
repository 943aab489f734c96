use Rattle.std.proofs.Common.{List, length, ap, sym, subst, ◌∙◌, arith}
use Rattle.gl_igc.specs.declared.fix.Fix.{Fix}
use Rattle.gl_goal.specs.Box.{IsLeastBox, fixes_in}
use Rattle.gl_goal.specs.Hull.{box_of}
use Rattle.gl_goal.specs.Table.{IsEntry}
use Rattle.gl_goal.specs.declared.entry.Entry.{Entry}
use Rattle.gl_goal.proofs.Entries.{entry-serves}
use Rattle.gl_goal.proofs.LeastBoxes.{IsLeastBox-is_hull}
use Rattle.gl_goal.proofs.hulls.Hulls.hull.Goals as goal

pub returns-then-eq-clause-least : goal.returns-then-eq-clause-least
returns-then-eq-clause-least c =
    let fixes = c.self.inside.fixes.items in
    let entry = c.index-entry.result.now in
    let P : Entry → Type 0 = IsEntry fixes in
    let holds = subst P (sym c.index-entry.ensures) (c.self.invariant.entries c.index_of.result entry (omega (arith, c.self.invariant.sized, ap length c.self.view_is))) in
    entry-serves fixes c.args.self.now entry c.args.span c.self.view_is c.if-eq.ensures holds

pub returns-then-eq-clause-value : goal.returns-then-eq-clause-value
returns-then-eq-clause-value c = IsLeastBox-is_hull _ _ (returns-then-eq-clause-least c)

pub returns-else-eq-clause-least : goal.returns-else-eq-clause-least
returns-else-eq-clause-least c =
    let P : List Fix → Type 0 = λ fixes. IsLeastBox (box_of c.hull_over.result) (fixes_in fixes (c.args.span.lo, c.args.span.hi)) in
    subst P (c.deref.ensures.value ∙ c.self.view_is) c.hull_over.ensures

pub returns-else-eq-clause-value : goal.returns-else-eq-clause-value
returns-else-eq-clause-value c = IsLeastBox-is_hull _ _ (returns-else-eq-clause-least c)
