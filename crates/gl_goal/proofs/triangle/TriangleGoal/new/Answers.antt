use Rattle.std.proofs.Common.{◌∙◌, ap, subst, [], length, List, get_or, arith}
use Rattle.gl_igc.specs.declared.fix.Fix.{Fix}
use Rattle.gl_goal.specs.Chain.{fixes_at}
use Rattle.gl_goal.specs.Code.Round.{AreReaches}
use Rattle.gl_goal.specs.Lemmas.Triangle.{triangle_goal-is_goal}
use Rattle.gl_goal.specs.Free.{fixes_between}
use Rattle.gl_goal.proofs.Triangles.{length-between, tell_reach}
use Rattle.gl_goal.proofs.triangle.TriangleGoal.new.Goals as goal

pub reaches-requires-clause-most : goal.reaches-requires-clause-most
reaches-requires-clause-most c =
    let lists = c.in_ok-lists.lists in
    let are = c.hulls.ensures ∙ ap (λ all. fixes_at lists.fixes (get_or all 0 [])) c.in_ok-lists.ensures.lists in
    omega (
      arith,
      ap length are,
      length-between lists.fixes c.args.first c.args.last c.requires.order (omega (arith, c.requires.within, ap length c.in_ok-lists.ensures.fixes)),
      c.requires.within,
      c.requires.most,
    )

pub invariant_of-result : goal.invariant_of-result
invariant_of-result c =
    let lists = c.in_ok-lists.lists in
    let same = ap length c.in_ok-lists.ensures.fixes in
    let are = c.hulls.ensures ∙ ap (λ all. fixes_at lists.fixes (get_or all 0 [])) c.in_ok-lists.ensures.lists in
    let P : List Fix → Type 0 = λ fixes. AreReaches fixes c.args.closing c.in_ok-reaches.reaches.items in
    record {
      in_order = c.requires.order;
      within = omega (arith, c.requires.within, same);
      at_most_90000 = omega (arith, c.requires.most, same);
      axes = c.in_ok-lists.ensures.lists;
      reached = tell_reach (fixes_between lists.fixes c.args.first c.args.last) c.args.closing c.in_ok-reaches.reaches.items (subst P are c.in_ok-reaches.ensures);
    }

pub returns-clause-well_formed : goal.returns-clause-well_formed
returns-clause-well_formed c =
    triangle_goal-is_goal _ _ _ _ c.requires.order (omega (arith, c.requires.within, ap length c.in_ok-lists.ensures.fixes))
