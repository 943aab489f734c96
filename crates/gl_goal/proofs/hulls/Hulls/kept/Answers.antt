use Rattle.std.proofs.Common.{length, ap, sym, subst, arith}
use Rattle.gl_goal.specs.Table.{IsEntry}
use Rattle.gl_goal.specs.declared.entry.Entry.{Entry}
use Rattle.gl_goal.proofs.Entries.{entry-serves}
use Rattle.gl_goal.proofs.LeastBoxes.{IsLeastBox-is_hull}
use Rattle.gl_goal.proofs.hulls.Hulls.kept.Goals as goal

pub returns-then-eq : goal.returns-then-eq
returns-then-eq c =
    let fixes = c.self.inside.fixes.items in
    let entry = c.index-entry.result.now in
    let P : Entry → Type 0 = IsEntry fixes in
    let holds = subst P (sym c.index-entry.ensures) (c.self.invariant.entries c.index_of.result entry (omega (arith, c.self.invariant.sized, ap length c.self.view_is))) in
    IsLeastBox-is_hull _ _ (entry-serves fixes c.args.self.now entry c.args.span c.self.view_is c.if-eq.ensures holds)
