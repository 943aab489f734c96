use Rattle.std.proofs.Common.{◌≡◌, ◌∙◌, sym, ap, subst, ◌+◌, List, [], ◌∷◌, ◌++◌, map, reverse, take, ℕ, arith}
use Rattle.std.proofs.lemmas.Bool.{eqb-true}
use Rattle.std.proofs.lemmas.Grind.{flat_map-append}
use Rattle.std.proofs.lemmas.List.{append-nil, map-append, nil_from_length, take_more}
use Rattle.gl_box.specs.declared.cell.Cell.{Cell}
use Rattle.gl_box.specs.declared.closed.Why.{Why}
use Rattle.gl_box.specs.declared.turn.GoalTurn.{GoalTurn}
use Rattle.gl_box.specs.Cell.{spans_of}
use Rattle.gl_box.specs.Frontier.{IsFrontier}
use Rattle.gl_box.specs.Turns.{boxes_from, left_open, reason_of}
use Rattle.gl_box.specs.Walk.{open_cells}
use Rattle.gl_box.proofs.Frontiers.{open_push}
use Rattle.gl_box.proofs.Turns.{boxes_from-append, left_open-append, turns_part}
use Rattle.gl_order.specs.declared.run.Run.{Run}
use Rattle.gl_order.specs.Order.{cells_of}
use Rattle.gl_order.specs.Runs.{IsPassed, boxes_by, boxes_in_runs}
use Rattle.gl_order.proofs.joined.joined.Goals as goal

pub loop-run-preserved : goal.loop-run-preserved
loop-run-preserved c =
    let runs = c.args.runs.now in
    let l = c.loop-run in
    let run = c.run-item.result in
    let start = spans_of c.args.whole.now ∷ [] in
    let turns = map reason_of l.turns.items in
    let more = map reason_of run.turns.items in
    let same : left_open start turns ≡ open_cells run.before.items = l.invariant.left
    ∙ ap reverse (ap (map spans_of) (sym c.deref.ensures.value) ∙ c.are_same.ensures c.if-not-are_same.false ∙ ap (map spans_of) c.deref-in-loop-run.ensures.value) in
    let added : map reason_of c.extend_from_slice.new.self.items ≡ turns ++ more =
    ap (map reason_of) (c.in_ok-extend_from_slice.ensures.items ∙ ap (λ (t : List GoalTurn). l.turns.items ++ t) c.deref-in-loop-run-2.ensures.value)
    ∙ map-append reason_of l.turns.items run.turns.items in
    let after : c.extend_from_slice-in-loop-run.new.self.items ≡ run.after.items =
    c.in_ok-extend_from_slice-2.ensures.items ∙ ap (λ (front : List Cell). front ++ c.deref-in-loop-run-3.result.now) c.clear.ensures.items ∙ c.deref-in-loop-run-3.ensures.value in
    let one : take (l.run-index + 1) runs ≡ take l.run-index runs ++ run ∷ [] =
    take_more runs l.run-index run c.loop-run-test.true ∙ ap (λ (r : Run). take l.run-index runs ++ r ∷ []) (sym c.run-item.is) in
    let boxes : boxes_in_runs (take (l.run-index + 1) runs) ≡ boxes_in_runs (take l.run-index runs) ++ boxes_by run =
    ap boxes_in_runs one ∙ flat_map-append boxes_by (take l.run-index runs) (run ∷ [])
    ∙ ap (λ (b : List (List (ℕ × ℕ) × Why)). boxes_in_runs (take l.run-index runs) ++ b) (append-nil (boxes_by run)) in
    record {
      boxes = ap (boxes_from start) added ∙ boxes_from-append start turns more ∙ ap (λ (b : List (List (ℕ × ℕ) × Why)). b ++ boxes_from (left_open start turns) more) l.invariant.boxes
          ∙ ap (λ (opened : List (List (ℕ × ℕ))). boxes_in_runs (take l.run-index runs) ++ boxes_from opened more) same ∙ sym boxes;
      left = ap (left_open start) added ∙ left_open-append start turns more ∙ ap (λ (opened : List (List (ℕ × ℕ))). left_open opened more) same
          ∙ subst IsPassed (sym c.run-item.is) (c.requires l.run-index run c.loop-run-test.true) ∙ ap open_cells (sym after);
    }

pub returns-clause-frontier : goal.returns-clause-frontier
returns-clause-frontier c =
    let whole = spans_of c.args.whole.now in
    let l = c.loop-run in
    let turns = map reason_of l.turns.items in
    let none : open_cells l.opened.items ≡ [] = ap open_cells (nil_from_length l.opened.items (omega (arith, eqb-true _ _ (sym c.is_empty.ensures ∙ c.if-not-is_empty.false), l.opened.ok.0))) in
    let one : open_cells c.push-2.new.self.items ≡ whole ∷ [] =
    ap open_cells c.in_ok-push-2.ensures.items ∙ open_push l.opened.items c.args.whole.now ∙ ap (λ (opened : List (List (ℕ × ℕ))). whole ∷ opened) none in
    subst (λ (opened : List (List (ℕ × ℕ))). IsFrontier whole (cells_of (boxes_from opened turns))) (sym one) (turns_part whole turns (l.invariant.left ∙ none))
