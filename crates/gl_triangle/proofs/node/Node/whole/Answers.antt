use Rattle.std.proofs.Common.{◌∙◌, ap, sym, subst, length, List, arith}
use Rattle.gl_igc.specs.declared.fix.Fix.{Fix}
use Rattle.gl_triangle.specs.Code.Legs.{AreLegs}
use Rattle.gl_triangle.specs.Code.Node.{fixes_of}
use Rattle.gl_triangle.specs.Code.Spans.{AreWithin, all_places}
use Rattle.gl_triangle.proofs.Cells.{made_cell, made_node, none_held, whole_cell-is, whole_numbered, within_fixes}
use Rattle.gl_triangle.proofs.Orders.{length-ordered}
use Rattle.gl_triangle.proofs.Rounds.{length-fixes_of}
use Rattle.gl_triangle.proofs.node.Node.whole.Goals as goal

pub whole-spans-requires-clause-some : goal.whole-spans-requires-clause-some
whole-spans-requires-clause-some c =
    let g = c.args.goal.now in
    omega (arith, ap length c.hulls-hulls.ensures, length-ordered (fixes_of g) c.args.order.now c.requires, length-fixes_of g)

pub whole-spans-requires-clause-most : goal.whole-spans-requires-clause-most
whole-spans-requires-clause-most c =
    let g = c.args.goal.now in
    omega (arith, ap length c.hulls-hulls.ensures, length-ordered (fixes_of g) c.args.order.now c.requires, length-fixes_of g, g.within, g.at_most_90000)

pub returns-clause-node : goal.returns-clause-node
returns-clause-node c =
    let g = c.args.goal.now in
    let order = c.args.order.now in
    let spans = c.whole-spans.result in
    let ordered = subst (λ (fixes : List Fix). AreWithin fixes spans) c.hulls-hulls.ensures c.whole-spans.ensures.within in
    let within = within_fixes (fixes_of g) order spans c.requires ordered in
    let long = ap length c.hulls-hulls.ensures ∙ length-ordered (fixes_of g) order c.requires in
    let cell = c.whole-spans.ensures.whole ∙ ap all_places long in
    let numbered = whole_numbered (fixes_of g) order spans c.requires (omega (arith, length-fixes_of g)) cell in
    let legs = subst (λ (fixes : List Fix). AreLegs fixes spans c.between.result) c.hulls-hulls.ensures c.between.ensures in
    made_node (fixes_of g) order spans spans c.between.result c.of.result within within numbered legs c.of.ensures.spans c.of.ensures.numbers c.of.ensures.legs c.of.ensures.bound

pub returns-clause-whole : goal.returns-clause-whole
returns-clause-whole c =
    let g = c.args.goal.now in
    let long = ap length c.hulls-hulls.ensures ∙ length-ordered (fixes_of g) c.args.order.now c.requires in
    made_cell c.whole-spans.result _ c.of.result (c.whole-spans.ensures.whole ∙ ap all_places long ∙ sym (whole_cell-is g)) c.of.ensures.spans

pub returns-clause-none : goal.returns-clause-none
returns-clause-none c =
    let g = c.args.goal.now in
    let order = c.args.order.now in
    let spans = c.whole-spans.result in
    let ordered = subst (λ (fixes : List Fix). AreWithin fixes spans) c.hulls-hulls.ensures c.whole-spans.ensures.within in
    let within = within_fixes (fixes_of g) order spans c.requires ordered in
    let legs = subst (λ (fixes : List Fix). AreLegs fixes spans c.between.result) c.hulls-hulls.ensures c.between.ensures in
    let long = ap length c.hulls-hulls.ensures ∙ length-ordered (fixes_of g) order c.requires in
    none_held g order spans c.between.result c.args.known _ c.of.result c.requires within legs (c.whole-spans.ensures.whole ∙ ap all_places long ∙ sym (whole_cell-is g)) c.of.ensures.none
