use Rattle.std.proofs.Common.{◌∙◌, ap, length, List, get_or, arith}
use Rattle.gl_igc.specs.declared.fix.Fix.{Fix}
use Rattle.gl_box.specs.Cell.{ends}
use Rattle.gl_goal.specs.Box.{fixes_in, hull_of}
use Rattle.gl_goal.specs.Code.Lists.{Listed}
use Rattle.gl_goal.proofs.Listed.{hull-at, hull-within}
use Rattle.gl_goal.proofs.lists.Lists.hull.Goals as goal

pub hull-requires : goal.hull-requires
hull-requires c =
    let within = hull-within _ _ _ c.args.cell.now c.args.axis c.index-cell-axis.result c.index.result.now c.self.invariant
    (ap (λ (l : Listed). l.lists) c.self.view_is) c.index.ensures c.requires.covers c.requires.axis_in in
    omega (arith, within, ap length c.deref.ensures)

pub returns : goal.returns
returns c =
    let span = get_or c.args.cell.now.spans c.args.axis c.index-cell-axis.result in
    let read = c.hull.ensures.value ∙ ap (λ (fs : List Fix). hull_of (fixes_in fs (ends span))) c.deref.ensures in
    hull-at _ _ c.args.self.now c.args.cell.now c.args.axis c.index-cell-axis.result c.index.result.now _ c.self.view_is c.self.invariant c.index.ensures c.requires.covers c.requires.axis_in read
