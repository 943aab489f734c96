use Rattle.std.proofs.Common.{◌≡◌, ◌∙◌, sym, ap, subst, ◌+◌, List, [], ◌∷◌, ◌++◌, length, map, take, arith}
use Rattle.std.proofs.lemmas.Bool.{eqb-true}
use Rattle.std.proofs.lemmas.List.{nil_from_length}
use Rattle.gl_box.specs.declared.cell.Cell.{Cell}
use Rattle.gl_box.specs.Cell.{spans_of}
use Rattle.gl_box.specs.Walk.{IsWalked, open_cells}
use Rattle.gl_box.proofs.Frontiers.{walked_start, walked_whole}
use Rattle.gl_box.proofs.Passed.{walked_more}
use Rattle.gl_order.proofs.sorting.frontier_len.Goals as goal

pub loop-count-init : goal.loop-count-init
loop-count-init g c =
    let one : open_cells c.push.new.self.items ≡ spans_of c.args.cell ∷ [] = ap open_cells (c.in_ok-push.ensures.items ∙ ap (λ (cells : List Cell). cells ++ c.args.cell ∷ []) c.clear.ensures.items) in
    subst (IsWalked (spans_of c.args.cell) []) (sym one) (walked_start (spans_of c.args.cell))

pub loop-count-preserved : goal.loop-count-preserved
loop-count-preserved g c =
    let l = c.loop-count in
    walked_more (spans_of c.args.cell) g.B.Boxed.spans c.args.boxes.now l.count c.index-boxes-count.result (spans_of c.cell.result.now) (open_cells l.opened.items)
    (open_cells c.go_down.new.opened.items) c.loop-count-test.true c.index-boxes-count.is c.cell.ensures l.invariant (c.in_ok-go_down.ensures.there c.if-not-branch.false)

pub returns-then-is_empty-clause-frontier : goal.returns-then-is_empty-clause-frontier
returns-then-is_empty-clause-frontier g c =
    let l = c.loop-count in
    let opened = c.go_down.new.opened in
    let walked = walked_more (spans_of c.args.cell) g.B.Boxed.spans c.args.boxes.now l.count c.index-boxes-count.result (spans_of c.cell.result.now) (open_cells l.opened.items)
    (open_cells opened.items) c.loop-count-test.true c.index-boxes-count.is c.cell.ensures l.invariant (c.in_ok-go_down.ensures.there c.if-not-branch.false) in
    let empty : length opened.items ≡ 0 = omega (arith, eqb-true _ _ (sym c.is_empty.ensures ∙ c.if-is_empty.true), opened.ok.0) in
    walked_whole (spans_of c.args.cell) (take (l.count + 1) (map g.B.Boxed.spans c.args.boxes.now)) (open_cells opened.items) walked (ap open_cells (nil_from_length opened.items empty))
