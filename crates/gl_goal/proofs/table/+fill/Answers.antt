use Rattle.std.proofs.Common.{◌+◌, ◌-◌, ◌/◌, List, sym, subst, arith}
use Rattle.std.proofs.lemmas.List.{length-set}
use Rattle.std.proofs.lemmas.List.Elements.{All-set}
use Rattle.gl_igc.specs.declared.fix.Fix.{Fix}
use Rattle.gl_goal.specs.Box.{IsLeastBox}
use Rattle.gl_goal.specs.Hull.{box_of}
use Rattle.gl_goal.specs.Table.{IsEntry}
use Rattle.gl_goal.specs.Lemmas.Spans.{fixes_in-parts, single-least}
use Rattle.gl_goal.proofs.table.+fill.Goals as goal

pub returns-then-span-clause-hull : goal.returns-then-span-clause-hull
returns-then-span-clause-hull t c =
    single-least (box_of c.of_fix.result) c.args.fixes.now c.args.span.lo c.args.span.hi c.index-fixes-span.result c.if-span.true (omega arith) c.index-fixes-span.is c.of_fix.ensures

pub returns-clause-hull : goal.returns-clause-hull
returns-clause-hull t c =
    let fixes = c.args.fixes.now in
    let lo = c.args.span.lo in
    let hi = c.args.span.hi in
    let P : List Fix → Type 0 = IsLeastBox (box_of c.join-hull.result) in
    subst P (sym (fixes_in-parts fixes lo (lo + (hi - lo) / 2) hi (omega arith) (omega arith))) (c.join-hull.ensures _ _ c.fill-lower.ensures.hull c.fill-upper.ensures.hull)

pub returns-clause-table : goal.returns-clause-table
returns-clause-table t c = record {
  most = c.requires.table.most;
  sized = omega (arith, c.fill-upper.ensures.table.sized, length-set c.fill-upper.new.table c.index_of.result (record { span = c.args.span; hull = c.join-hull.result }));
  entries = All-set (IsEntry c.args.fixes.now) c.fill-upper.new.table c.index_of.result _ (returns-clause-hull t c) c.fill-upper.ensures.table.entries;
}
