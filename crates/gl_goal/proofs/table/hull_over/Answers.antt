use Rattle.std.proofs.Common.{◌∷◌, [], ◌++◌, take, List, sym, subst}
use Rattle.std.proofs.lemmas.List.{take_more}
use Rattle.gl_igc.specs.declared.fix.Fix.{Fix}
use Rattle.gl_goal.specs.Box.{IsLeastBox}
use Rattle.gl_goal.specs.Hull.{box_of}
use Rattle.gl_goal.proofs.table.hull_over.Goals as goal

pub loop-place-preserved : goal.loop-place-preserved
loop-place-preserved c =
    let fixes = c.args.fixes.now in
    let fix = c.index-fixes-place.result in
    let box = box_of c.join-hull.result in
    let P : List Fix → Type 0 = IsLeastBox box in
    let Q : Fix → Type 0 = λ f. IsLeastBox box (take c.loop-place.place fixes ++ f ∷ []) in
    subst P (sym (take_more fixes c.loop-place.place fix c.loop-place-test.true)) (subst Q c.index-fixes-place.is (c.join-hull.ensures _ _ c.loop-place.invariant c.of_fix.ensures))
