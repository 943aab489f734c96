use Rattle.std.proofs.Common.{◌≡◌, ◌∙◌, sym, ap, subst, inl, inr, ℕ, ◌-◌, ◌<◌, length, take, Some, arith}
use Rattle.gl_box.specs.declared.cell.Cell.{Cell}
use Rattle.gl_box.specs.Cell.{Covers, spans_of}
use Rattle.gl_box.specs.Halves.{span_at}
use Rattle.gl_box.proofs.Held.{length-covers}
use Rattle.gl_box.proofs.Spans.{length-spans_of, span_at-spans_of}
use Rattle.gl_box.proofs.Turns.{single_closed, turn_added}
use Rattle.gl_near.specs.declared.found.NearWhy.TheVariants.{Near}
use Rattle.gl_near.specs.Pairing.{whole_cell}
use Rattle.gl_near.specs.Pairs.{pairing_of, pairs_are}
use Rattle.gl_near.specs.Certificate.{total_of}
use Rattle.gl_near.specs.Code.Search.{Promises}
use Rattle.gl_near.specs.Search.{near_reason_of}
use Rattle.gl_near.proofs.Stack.{open_reached, two_axes}
use Rattle.gl_near.proofs.search.advance.Goals as goal
use Rattle.gl_text.proofs.Lists.{top_is}

pub returns-in_ok-settle-in-Closed-clause-step : goal.returns-in_ok-settle-in-Closed-clause-step
returns-in_ok-settle-in-Closed-clause-step c =
    let items = c.args.cells.now.items in
    let n = c.len-top.result - 1 in
    let first = c.index.result.now in
    let top = top_is items n first (omega (arith, c.requires.some, c.args.cells.now.ok.0)) (omega (arith, c.len-top.ensures, c.args.cells.now.ok.0)) c.index.ensures in
    inl (record { cell = first; why = c.in-Closed.why; closes = (c.in_ok-settle-in-Closed.ensures (take n items) first top).0; reason = c.in-Closed.ensures })

pub returns-in_default-clause-step : goal.returns-in_default-clause-step
returns-in_default-clause-step c =
    let items = c.args.cells.now.items in
    let n = c.len-top.result - 1 in
    let first = c.index.result.now in
    let top = top_is items n first (omega (arith, c.requires.some, c.args.cells.now.ok.0)) (omega (arith, c.len-top.ensures, c.args.cells.now.ok.0)) c.index.ensures in
    let promises : Promises (pairing_of c.args.pairs.now) (total_of c.args.best.now) (spans_of first) c.in-Open.least = c.in-Open.ensures in
    inr (record { cell = first; cuts = rw c.in_default.is at (c.in_ok-single-in-Open.ensures (take n items) first top); is_open = promises.not_apart })

pub returns-in_ok-push-in-Open-clause-step : goal.returns-in_ok-push-in-Open-clause-step
returns-in_ok-push-in-Open-clause-step c =
    let items = c.args.cells.now.items in
    let n = c.len-top.result - 1 in
    let first = c.index.result.now in
    let top = top_is items n first (omega (arith, c.requires.some, c.args.cells.now.ok.0)) (omega (arith, c.len-top.ensures, c.args.cells.now.ok.0)) c.index.ensures in
    let promises : Promises (pairing_of c.args.pairs.now) (total_of c.args.best.now) (spans_of first) c.in-Open.least = c.in-Open.ensures in
    inl (record {
      cell = first;
      why = Near;
      closes = single_closed first c.in-Some.single items _ _ _ _ Near (rw c.in-Some.is at (c.in_ok-single-in-Open.ensures (take n items) first top))
          (turn_added near_reason_of c.settle-in-Open.new.turns.items c.push.new.self.items c.close.result (Some Near) c.in_ok-push-in-Open.ensures.items c.close.ensures);
      reason = omega (arith, promises.is_least);
    })

pub returns-in_ok-push-in-Open-clause-sound : goal.returns-in_ok-push-in-Open-clause-sound
returns-in_ok-push-in-Open-clause-sound c =
    let pairing = pairing_of c.args.pairs.now in
    let items = c.args.cells.now.items in
    let n = c.len-top.result - 1 in
    let first = c.index.result.now in
    let some : 0 < length items = omega (arith, c.requires.some, c.args.cells.now.ok.0) in
    let last : n ≡ length items - 1 = omega (arith, c.len-top.ensures, c.args.cells.now.ok.0) in
    let stays = rw c.in-Some.is at (c.in_ok-single-in-Open.ensures (take n items) first (top_is items n first some last c.index.ensures)) in
    let covers = subst (λ (cell : Cell). Covers (whole_cell pairing) (spans_of cell)) (sym c.index.ensures) (c.requires.covers n first (omega arith)) in
    let single = c.in-Some.single in
    let axes : single.axes ≡ 2 = ap (λ (cell : Cell). cell.axes) stays.same ∙ sym (length-spans_of first) ∙ sym (length-covers (whole_cell pairing) (spans_of first) covers) ∙ two_axes pairing in
    let low = λ (axis place : ℕ) (is : place ≡ (span_at (spans_of single) axis).0). is ∙ ap (λ (cell : Cell). (span_at (spans_of cell) axis).0) stays.same in
    open_reached pairing (total_of c.args.best.now) (spans_of first) c.in-Open.least _ _ (pairs_are c.args.pairs.now) covers stays.single c.in-Open.ensures
    (low 0 _ (sym (ap (λ (span : ℕ × ℕ). span.0) (span_at-spans_of single 0 c.index-single-0.result (omega arith)))))
    (low 1 _ (sym (ap (λ (span : ℕ × ℕ). span.0) (span_at-spans_of single 1 c.index-single-1.result (omega arith)))))
