use Rattle.std.proofs.Common.{subst, sym, List}
use Rattle.gl_igc.specs.declared.fix.Fix.{Fix}
use Rattle.gl_triangle.specs.Code.Legs.{AreLegs}
use Rattle.gl_triangle.specs.Code.Node.{fixes_of}
use Rattle.gl_triangle.specs.Code.Spans.{AreWithin}
use Rattle.gl_triangle.proofs.Cells.{none_held, within_ordered, within_with}
use Rattle.gl_triangle.proofs.node.Node.narrowed.Goals as goal

pub remeasured-legs-requires-clause-within : goal.remeasured-legs-requires-clause-within
remeasured-legs-requires-clause-within c =
    let g = c.args.goal.now in
    let spans = c.with-spans.result in
    let within = within_with (fixes_of g) c.args.self.now.spans spans c.args.corner c.args.span c.with-spans.ensures c.requires.node.within c.requires.inside in
    subst (λ (fixes : List Fix). AreWithin fixes spans) (sym c.hulls.ensures) (within_ordered (fixes_of g) c.args.order.now spans c.requires.order within)

pub returns-clause-none : goal.returns-clause-none
returns-clause-none c =
    let g = c.args.goal.now in
    let spans = c.with-spans.result in
    let within = within_with (fixes_of g) c.args.self.now.spans spans c.args.corner c.args.span c.with-spans.ensures c.requires.node.within c.requires.inside in
    let legs = subst (λ (fixes : List Fix). AreLegs fixes spans c.remeasured-legs.result) c.hulls.ensures c.remeasured-legs.ensures in
    none_held g c.args.order.now spans c.remeasured-legs.result c.args.known _ c.of.result c.requires.order within legs c.with-spans.ensures c.of.ensures.none
