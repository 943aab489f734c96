use Rattle.std.proofs.Common.{◌≡◌, ◌∙◌, sym, ap, subst, ◌+◌, List, [], ◌∷◌, ◌++◌, drop, map, take, Some}
use Rattle.std.proofs.lemmas.List.{drop_more, map-append, take_more}
use Rattle.gl_box.specs.declared.closed.Closed.{Closed}
use Rattle.gl_box.specs.Cell.{spans_of}
use Rattle.gl_box.specs.Closed.{box_of}
use Rattle.gl_box.specs.Turns.{reason_of}
use Rattle.gl_box.specs.Walk.{AreFrontiers, cuts_of, open_cells}
use Rattle.gl_box.proofs.Turns.{goes_to, is_there, turn_added}
use Rattle.gl_box.proofs.boxes.walk_of.Goals as goal

pub loop-next-preserved : goal.loop-next-preserved
loop-next-preserved c =
    let whole = spans_of c.args.whole.now in
    let boxes = c.args.boxes.now in
    let l = c.loop-next in
    let next = c.next-item.result in
    let rest = drop (l.next-index + 1) boxes in
    let behind : drop l.next-index boxes ≡ next ∷ rest = drop_more boxes l.next-index next c.loop-next-test.true ∙ ap (λ (b : Closed). b ∷ rest) (sym c.next-item.is) in
    let there = c.in_ok-come_to.ensures.there c.if-not-branch.false in
    let turns = map reason_of l.turns.items in
    let come = is_there (whole ∷ []) turns (map reason_of c.come_to.new.turns.items) there.0 (spans_of next.cell) (open_cells c.come_to.new.opened.items)
    (ap (cuts_of there.0) l.invariant.left ∙ there.1.cuts) there.2 in
    let gone = goes_to (whole ∷ []) turns (map reason_of c.come_to.new.turns.items) (map reason_of c.push-in-loop-next.new.self.items) (spans_of next.cell) next.why (open_cells c.come_to.new.opened.items)
    come (turn_added reason_of c.come_to.new.turns.items c.push-in-loop-next.new.self.items c.close.result (Some next.why) c.in_ok-push-2.ensures.items c.close.ensures) in
    let more : map box_of (take (l.next-index + 1) boxes) ≡ map box_of (take l.next-index boxes) ++ box_of next ∷ [] =
    ap (map box_of) (take_more boxes l.next-index next c.loop-next-test.true ∙ ap (λ (b : Closed). take l.next-index boxes ++ b ∷ []) (sym c.next-item.is)) ∙ map-append box_of (take l.next-index boxes) (next ∷ []) in
    record {
      boxes = gone.boxes ∙ ap (λ front. front ++ box_of next ∷ []) l.invariant.boxes ∙ sym more;
      left = gone.left;
      fronts = (there.1.fronts (map (λ (box : Closed). spans_of box.cell) rest)).0
          (subst (λ (b : List Closed). AreFrontiers (open_cells l.opened.items) (map (λ (box : Closed). spans_of box.cell) b)) behind l.invariant.fronts);
    }
