use Rattle.std.proofs.Common.{◌≡◌, ◌∙◌, sym, ap, refl, subst, ℕ, ◌<◌, ◌++◌, get_or, length, take, map, List, Option, arith}
use Rattle.std.specs.Prelude.{IfSome}
use Rattle.std.specs.List.Sorted.{IsPermutation}
use Rattle.std.proofs.lemmas.List.Sorted.{IsPermutation-append, IsPermutation-append_right, IsPermutation-trans}
use Rattle.std.proofs.lemmas.List.{length-set, take-map}
use Rattle.std.proofs.lemmas.Result.{on_ok_weaker}
use Rattle.gl_box.specs.declared.cell.Cell.{Cell}
use Rattle.gl_box.specs.declared.span.Span.{Span}
use Rattle.gl_box.specs.Cell.{spans_of}
use Rattle.gl_box.specs.Halves.{AreHalves, IsWidest, span_at}
use Rattle.gl_box.specs.Frontier.{IsFrontier}
use Rattle.gl_box.proofs.Nodes.{spread-lower, spread-upper}
use Rattle.gl_box.proofs.Spans.{length-spans_of, span_at-spans_of}
use Rattle.gl_order.proofs.Partings.{boxes_axis, boxes_ended, boxes_joined, boxes_one, boxes_passed, boxes_single}
use Rattle.gl_order.proofs.sorting.+put_in_order.Goals as goal

-- the last place of the lower half on the axis of the cut
end_of : (cell lower upper : Cell) (axis : ℕ) (some : Span) → IsWidest (spans_of cell) axis → AreHalves (spans_of cell) (spans_of lower) (spans_of upper) → (get_or lower.spans axis some).hi ≡ (span_at (spans_of lower) axis).1
end_of cell lower upper axis some is_widest halves =
    let inside : axis < lower.axes = omega (arith, is_widest.inside, ap length halves.lower_is, length-set {A = ℕ × ℕ}, length-spans_of lower) in
    sym (ap (λ (s : ℕ × ℕ). s.1) (span_at-spans_of lower axis some inside))

pub part-count-requires : goal.part-count-requires
part-count-requires g t c = boxes_axis g.B.Boxed.spans (spans_of c.args.cell) c.args.boxes.now c.widest-axis.result c.requires c.widest-axis.ensures.inside

pub put_in_order-requires : goal.put_in_order-requires
put_in_order-requires g t c κs within =
    let frontier = subst (λ (o : Option ℕ). IfSome o (λ count. IsFrontier (spans_of c.in-Some.lower) (take count (map g.B.Boxed.spans c.args.boxes.now)))) c.in-Some-2.is c.in_ok-count.ensures.frontier in (
      omega (arith, spread-upper _ _ _ c.in-Some.ensures.halves, c.decreases),
      (
        within,
        boxes_passed g.B.Boxed.spans c.args.cell c.in-Some.lower c.halve.new.cell c.args.boxes.now _ c.in-Some-2.count c.requires c.if-boxes-eq1.false c.in-Some.ensures.halves frontier c.split_at_mut-back.ensures.back,
      ),
    )

pub put_in_order-requires-2 : goal.put_in_order-requires-2
put_in_order-requires-2 g t c κs within = (
  omega (arith, spread-lower _ _ _ c.in-Some.ensures.halves, c.decreases),
  (
    within,
    (boxes_ended g.B.Boxed.spans c.args.cell c.in-Some.lower c.halve.new.cell c.args.boxes.now c.part-count.new.boxes c.split_at_mut-front.result.0.now c.split_at_mut-front.result.1.now c.part-count.result
        c.widest-axis.result _ c.requires c.if-boxes-eq1.false c.in-Some.ensures.halves c.widest-axis.ensures (end_of c.args.cell c.in-Some.lower c.halve.new.cell c.widest-axis.result c.index-lower-axis.result c.widest-axis.ensures c.in-Some.ensures.halves)
        c.part-count.ensures.permutation c.part-count.ensures.front c.part-count.ensures.back c.split_at_mut-front.ensures.front
        c.split_at_mut-front.ensures.back).0,
  ),
)

pub put_in_order-requires-3 : goal.put_in_order-requires-3
put_in_order-requires-3 g t c κs within = (
  omega (arith, spread-upper _ _ _ c.in-Some.ensures.halves, c.decreases),
  (
    within,
    (boxes_ended g.B.Boxed.spans c.args.cell c.in-Some.lower c.halve.new.cell c.args.boxes.now c.part-count.new.boxes c.split_at_mut-front.result.0.now c.split_at_mut-front.result.1.now c.part-count.result
        c.widest-axis.result _ c.requires c.if-boxes-eq1.false c.in-Some.ensures.halves c.widest-axis.ensures (end_of c.args.cell c.in-Some.lower c.halve.new.cell c.widest-axis.result c.index-lower-axis.result c.widest-axis.ensures c.in-Some.ensures.halves)
        c.part-count.ensures.permutation c.part-count.ensures.front c.part-count.ensures.back c.split_at_mut-front.ensures.front
        c.split_at_mut-front.ensures.back).1,
  ),
)

pub returns-in-Some-2-clause-permutation : goal.returns-in-Some-2-clause-permutation
returns-in-Some-2-clause-permutation g t c =
    on_ok_weaker c.put_in_order.result
    (λ same. subst (λ (boxes : List g.row.B.Denot). IsPermutation boxes (c.split_at_mut-back.result.0.now ++ c.put_in_order.new.boxes)) (sym c.split_at_mut-back.ensures.value)
    (IsPermutation-append_right c.split_at_mut-back.result.0.now c.split_at_mut-back.result.1.now c.put_in_order.new.boxes same))
    c.put_in_order.ensures.permutation

pub returns-in-Some-2-clause-frontier : goal.returns-in-Some-2-clause-frontier
returns-in-Some-2-clause-frontier g t c =
    let frontier = subst (λ (o : Option ℕ). IfSome o (λ count. IsFrontier (spans_of c.in-Some.lower) (take count (map g.B.Boxed.spans c.args.boxes.now)))) c.in-Some-2.is c.in_ok-count.ensures.frontier in
    let front : take c.in-Some-2.count (map g.B.Boxed.spans c.args.boxes.now) ≡ map g.B.Boxed.spans c.split_at_mut-back.result.0.now = take-map g.B.Boxed.spans c.in-Some-2.count c.args.boxes.now
    ∙ ap (map g.B.Boxed.spans) (sym c.split_at_mut-back.ensures.front) in
    on_ok_weaker c.put_in_order.result
    (λ back. boxes_joined g.B.Boxed.spans c.args.cell c.in-Some.lower c.halve.new.cell c.split_at_mut-back.result.0.now c.put_in_order.new.boxes c.in-Some.ensures.halves
    (subst (IsFrontier (spans_of c.in-Some.lower)) front frontier) back)
    c.put_in_order.ensures.frontier

pub returns-clause-permutation : goal.returns-clause-permutation
returns-clause-permutation g t c =
    on_ok_weaker c.put_in_order-3.result
    (λ same. IsPermutation-trans c.args.boxes.now c.part-count.new.boxes (c.put_in_order-2.new.boxes ++ c.put_in_order-3.new.boxes) c.part-count.ensures.permutation
    (subst (λ (boxes : List g.row.B.Denot). IsPermutation boxes (c.put_in_order-2.new.boxes ++ c.put_in_order-3.new.boxes)) (sym c.split_at_mut-front.ensures.value)
    (IsPermutation-append c.split_at_mut-front.result.0.now c.put_in_order-2.new.boxes c.split_at_mut-front.result.1.now c.put_in_order-3.new.boxes c.in_ok-put_in_order.ensures.permutation same)))
    c.put_in_order-3.ensures.permutation

pub returns-clause-frontier : goal.returns-clause-frontier
returns-clause-frontier g t c =
    on_ok_weaker c.put_in_order-3.result
    (λ back. boxes_joined g.B.Boxed.spans c.args.cell c.in-Some.lower c.halve.new.cell c.put_in_order-2.new.boxes c.put_in_order-3.new.boxes c.in-Some.ensures.halves c.in_ok-put_in_order.ensures.frontier back)
    c.put_in_order-3.ensures.frontier

pub returns-in_default-clause-frontier : goal.returns-in_default-clause-frontier
returns-in_default-clause-frontier g t c = boxes_single g.B.Boxed.spans c.args.cell c.args.boxes.now c.requires (c.in_default.ensures.single.0 refl)

pub returns-then-boxes-eq1-clause-frontier : goal.returns-then-boxes-eq1-clause-frontier
returns-then-boxes-eq1-clause-frontier g t c = boxes_one g.B.Boxed.spans c.args.cell c.args.boxes.now c.requires c.if-boxes-eq1.true
