use Rattle.std.proofs.Common.{◌≡◌, ◌∙◌, sym, ap, subst, ℕ, ◌<◌, List, [], ◌∷◌, length, get_or, map, set, arith}
use Rattle.std.proofs.Math.Seq.{map-set_same}
use Rattle.std.proofs.lemmas.List.{get_or-map, length-map, map-set}
use Rattle.gl_box.specs.declared.cell.Cell.{Cell}
use Rattle.gl_deal.specs.declared.pass.Pass.{Pass}
use Rattle.gl_deal.specs.declared.view.PassView.{PassView}
use Rattle.gl_deal.specs.Tokens.{Deque, end_of}
use Rattle.gl_deal.specs.Views.{with_stolen}
use Rattle.gl_pool.specs.Code.Taken.{Steals}
use Rattle.gl_pool.proofs.Moving.{steals_at}
use Rattle.gl_pool.proofs.taking.steal_any.Goals as goal

-- a pass among others took a cell
stolen : (passes : List Pass) (index : ℕ) (before after : Pass) (cell : Cell) → index < length passes → before ≡ get_or passes index before
    → end_of after ≡ ((end_of before).0, with_stolen (end_of before).1 (cell ∷ [])) → Steals (map end_of passes) (map end_of (set passes index after)) cell
stolen passes index before after cell within is took =
    let below : index < length (map end_of passes) = omega (arith, within, length-map passes end_of) in
    let read : end_of before ≡ get_or (map end_of passes) index (end_of before) = ap end_of is ∙ sym (get_or-map end_of passes index before (end_of before) within) in
    subst (λ (ends : List (Deque × PassView)). Steals (map end_of passes) ends cell)
    (ap (set (map end_of passes) index) (sym took) ∙ sym (map-set end_of passes index after))
    (steals_at (map end_of passes) index (end_of before) cell below read)

pub returns-in-Some : goal.returns-in-Some
returns-in-Some c =
    let passes = c.loop-index.passes in
    let index = c.loop-index.index in
    let within : index < length passes = omega (arith, c.loop-index-test.true, c.loop-index.auto.passes) in
    subst (λ (old : List (Deque × PassView)). Steals old (map end_of (set passes index c.steal_from.new.pass)) c.in-Some.cell) c.loop-index.invariant
    (stolen passes index (get_or passes index c.index-passes-index.result) c.steal_from.new.pass c.in-Some.cell within (ap (get_or passes index) c.index-passes-index.is) c.in-Some.ensures)

pub loop-index-preserved : goal.loop-index-preserved
loop-index-preserved c = map-set_same end_of c.loop-index.passes c.loop-index.index c.steal_from.new.pass c.index-passes-index.result (c.in_default.ensures) ∙ c.loop-index.invariant
