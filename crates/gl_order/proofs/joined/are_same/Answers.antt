use Rattle.std.proofs.Common.{◌≡◌, ◌∙◌, sym, ap, subst, ◌<◌, [], length, get_or, map, below_more, arith}
use Rattle.std.proofs.lemmas.List.{get_or_default, get_or-map, get_or_read, length-map, same_lists}
use Rattle.gl_box.specs.declared.cell.Cell.{Cell}
use Rattle.gl_box.specs.Cell.{Covers, spans_of}
use Rattle.gl_box.proofs.Frontiers.{covers_both}
use Rattle.gl_order.proofs.joined.are_same.Goals as goal

pub loop-index-preserved : goal.loop-index-preserved
loop-index-preserved c =
    let cells = c.args.cells.now in
    let others = c.args.others.now in
    let k = c.loop-index.index in
    let below : k < length cells = omega (arith, c.loop-index-test.true) in
    let also : k < length others = omega (arith, c.loop-index-test.true) in
    let one = c.index-cells-index.result in
    let other = c.index-others-index.result in
    let one_is : c.index-cells-index-in-loop-index.result ≡ one = get_or_read cells k c.index-cells-index-in-loop-index.result below c.index-cells-index-in-loop-index.is one
    ∙ sym c.index-cells-index.is in
    let other_is : c.index-others-index-in-loop-index.result ≡ other = get_or_read others k c.index-others-index-in-loop-index.result also c.index-others-index-in-loop-index.is other
    ∙ sym c.index-others-index.is in
    let back : Covers (spans_of other) (spans_of one) = subst (λ (x : Cell). Covers (spans_of other) (spans_of x)) one_is
    (subst (λ (y : Cell). Covers (spans_of y) (spans_of c.index-cells-index-in-loop-index.result)) other_is (c.covers-in-loop-index.ensures.0 c.if-not-covers-2.false)) in
    let same = covers_both (spans_of one) (spans_of other) (c.covers.ensures.0 c.if-not-covers.false) back in
    let here : get_or (map spans_of cells) k [] ≡ get_or (map spans_of others) k [] = get_or-map spans_of cells k one [] below ∙ ap spans_of (sym c.index-cells-index.is) ∙ same
    ∙ ap spans_of c.index-others-index.is ∙ sym (get_or-map spans_of others k other [] also) in
    below_more (λ i. get_or (map spans_of cells) i [] ≡ get_or (map spans_of others) i []) k c.loop-index.invariant here

pub returns : goal.returns
returns c = λ yes.
    let cells = c.args.cells.now in
    let others = c.args.others.now in
    same_lists (map spans_of cells) (map spans_of others) (omega (arith, length-map cells spans_of, length-map others spans_of))
    (λ k d below. get_or_default (map spans_of cells) k d [] below ∙ c.loop-index.invariant k (omega (arith, length-map cells spans_of))
    ∙ sym (get_or_default (map spans_of others) k d [] (omega (arith, length-map cells spans_of, length-map others spans_of))))
