use Rattle.std.proofs.Common.{◌≡◌, ◌∙◌, sym, ap, subst, ℕ, List, map, Option}
use Rattle.std.specs.Prelude.{IfSome}
use Rattle.std.specs.List.Sorted.{IsPermutation}
use Rattle.std.proofs.lemmas.List.Sorted.{All-permutation, IsPermutation-map, IsPermutation-trans}
use Rattle.std.proofs.lemmas.Result.{IfOk-weaker}
use Rattle.gl_box.specs.declared.along.Walk.{Walk}
use Rattle.gl_box.specs.declared.closed.Closed.{Closed}
use Rattle.gl_box.specs.declared.closed.Why.{Why}
use Rattle.gl_box.specs.declared.turn.GoalTurn.{GoalTurn}
use Rattle.gl_box.specs.Along.{boxes_along}
use Rattle.gl_box.specs.Cell.{spans_of}
use Rattle.gl_box.specs.Closed.{box_of}
use Rattle.gl_box.specs.Frontier.{IsFrontier}
use Rattle.gl_box.specs.Turns.{reason_of}
use Rattle.gl_box.proofs.Passed.{map_twice}
use Rattle.gl_order.specs.Order.{AreParts, cells_of}
use Rattle.gl_order.specs.Runs.{ArePassed, IsPassed, boxes_by, boxes_in_runs}
use Rattle.gl_order.proofs.Flat.{flat-permutation}
use Rattle.gl_order.proofs.Partings.{parts-permutation}
use Rattle.gl_order.proofs.joined.in_order.Goals as goal

-- the cells of boxes that are spread out
cells_out : (boxes : List Closed) → map (λ (box : Closed). spans_of box.cell) boxes ≡ cells_of (map box_of boxes)
cells_out boxes = map_twice box_of (λ (box : List (ℕ × ℕ) × Why). box.0) boxes

pub joined-requires : goal.joined-requires
joined-requires c =
    subst ArePassed (sym c.deref.ensures.value) (All-permutation IsPassed c.args.runs.items c.sort_by_key.new.self.items c.sort_by_key.ensures.permutation c.requires.passed)

pub returns-in-Some-clause-permutation : goal.returns-in-Some-clause-permutation
returns-in-Some-clause-permutation c =
    let boxes = subst (λ (joined : Option (Walk GoalTurn)). IfSome joined (λ walk. boxes_along reason_of walk ≡ boxes_in_runs c.deref.result.now)) c.in-Some.is c.in_ok-walk.ensures.boxes in
    subst (IsPermutation (boxes_in_runs c.args.runs.items)) (ap boxes_in_runs (sym c.deref.ensures.value) ∙ sym boxes)
    (flat-permutation boxes_by c.args.runs.items c.sort_by_key.new.self.items c.sort_by_key.ensures.permutation)

pub sorted-requires : goal.sorted-requires
sorted-requires c =
    let all = spans_of c.args.whole.now in
    let moved = flat-permutation boxes_by c.args.runs.items c.sort_by_key.new.self.items c.sort_by_key.ensures.permutation in
    subst (AreParts all) (ap cells_of (sym c.in_ok-spread.ensures) ∙ sym (cells_out c.in_ok-spread.field-0.items))
    (parts-permutation (λ (box : List (ℕ × ℕ) × Why). box.0) all (boxes_in_runs c.args.runs.items) (boxes_in_runs c.sort_by_key.new.self.items) moved c.requires.parts)

pub walk_of-requires : goal.walk_of-requires
walk_of-requires c =
    subst (λ (boxes : List Closed). IsFrontier (spans_of c.args.whole.now) (map (λ (box : Closed). spans_of box.cell) boxes)) (sym c.deref-2.ensures.value) c.in_ok-boxes.ensures.frontier

pub returns-clause-frontier : goal.returns-clause-frontier
returns-clause-frontier c =
    let boxes = c.in_ok-boxes.boxes.items in
    IfOk-weaker c.walk_of.result _ _
    (λ walk same. subst (IsFrontier (spans_of c.args.whole.now)) (cells_out boxes ∙ ap cells_of (ap (map box_of) (sym c.deref-2.ensures.value) ∙ sym same)) c.in_ok-boxes.ensures.frontier)
    c.walk_of.ensures

pub returns-clause-permutation : goal.returns-clause-permutation
returns-clause-permutation c =
    let before = boxes_in_runs c.args.runs.items in
    let boxes = c.in_ok-boxes.boxes.items in
    let moved = flat-permutation boxes_by c.args.runs.items c.sort_by_key.new.self.items c.sort_by_key.ensures.permutation in
    let spread = subst (IsPermutation before) (sym c.in_ok-spread.ensures) moved in
    let same = IsPermutation-trans before _ (map box_of boxes) spread (IsPermutation-map box_of c.in_ok-spread.field-0.items boxes c.in_ok-boxes.ensures.permutation) in
    IfOk-weaker c.walk_of.result _ _ (λ walk is. subst (IsPermutation before) (ap (map box_of) (sym c.deref-2.ensures.value) ∙ sym is) same) c.walk_of.ensures
