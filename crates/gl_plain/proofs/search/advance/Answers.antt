use Rattle.std.proofs.Common.{◌≡◌, sym, subst, inl, inr, ◌-◌, ◌<◌, length, take, Some, arith}
use Rattle.gl_box.specs.declared.cell.Cell.{Cell}
use Rattle.gl_box.specs.declared.closed.Why.TheVariants.{Bound}
use Rattle.gl_box.specs.Cell.{Covers, spans_of}
use Rattle.gl_box.specs.Turns.{reason_of}
use Rattle.gl_box.proofs.Turns.{single_closed, turn_added}
use Rattle.gl_goal.specs.Goal.{whole_cell}
use Rattle.gl_goal.specs.Best.{total_of}
use Rattle.gl_plain.specs.CellVerdict.{Promises}
use Rattle.gl_plain.proofs.Stack.{single_reached}
use Rattle.gl_plain.proofs.search.advance.Goals as goal
use Rattle.gl_text.proofs.Lists.{top_is}

pub test-requires-clause-covers : goal.test-requires-clause-covers
test-requires-clause-covers g c =
    let rule = g.G.Goal.rule c.args.goal.now in
    let below : c.len-top.result - 1 < length c.args.cells.now.items = omega (arith, c.len-top.ensures, c.requires.some, c.args.cells.now.ok.0) in
    subst (λ (cell : Cell). Covers (whole_cell rule.axes) (spans_of cell)) (sym c.index.ensures) (c.requires.covers (c.len-top.result - 1) c.index.result.now below)

pub returns-in_ok-settle-in-Closed-clause-step : goal.returns-in_ok-settle-in-Closed-clause-step
returns-in_ok-settle-in-Closed-clause-step g c =
    let items = c.args.cells.now.items in
    let n = c.len-top.result - 1 in
    let first = c.index.result.now in
    let top = top_is items n first (omega (arith, c.requires.some, c.args.cells.now.ok.0)) (omega (arith, c.len-top.ensures, c.args.cells.now.ok.0)) c.index.ensures in
    inl (record { cell = first; why = c.in-Closed.why; closes = (c.in_ok-settle-in-Closed.ensures (take n items) first top).0; reason = c.in-Closed.ensures.verdict })

pub returns-in_default-clause-step : goal.returns-in_default-clause-step
returns-in_default-clause-step g c =
    let items = c.args.cells.now.items in
    let n = c.len-top.result - 1 in
    let first = c.index.result.now in
    let top = top_is items n first (omega (arith, c.requires.some, c.args.cells.now.ok.0)) (omega (arith, c.len-top.ensures, c.args.cells.now.ok.0)) c.index.ensures in
    let promises : Promises (g.G.Goal.rule c.args.goal.now) (total_of c.args.best.now) (spans_of first) c.in-Open.bound = c.in-Open.ensures.verdict in
    inr (record { cell = first; cuts = rw c.in_default.is at (c.in_ok-single-in-Open.ensures (take n items) first top); is_open = promises.is_open })

pub returns-in_ok-push-in-Open-clause-step : goal.returns-in_ok-push-in-Open-clause-step
returns-in_ok-push-in-Open-clause-step g c =
    let items = c.args.cells.now.items in
    let n = c.len-top.result - 1 in
    let first = c.index.result.now in
    let top = top_is items n first (omega (arith, c.requires.some, c.args.cells.now.ok.0)) (omega (arith, c.len-top.ensures, c.args.cells.now.ok.0)) c.index.ensures in
    let promises : Promises (g.G.Goal.rule c.args.goal.now) (total_of c.args.best.now) (spans_of first) c.in-Open.bound = c.in-Open.ensures.verdict in
    inl (record {
      cell = first;
      why = Bound;
      closes = single_closed first c.in-Some.single items _ _ _ _ Bound (rw c.in-Some.is at (c.in_ok-single-in-Open.ensures (take n items) first top))
          (turn_added reason_of c.settle-in-Open.new.turns.items c.push.new.self.items c.close.result (Some Bound) c.in_ok-push-in-Open.ensures.items c.close.ensures);
      reason = omega (arith, promises.is_bound);
    })

pub returns-in_ok-push-in-Open-clause-sound : goal.returns-in_ok-push-in-Open-clause-sound
returns-in_ok-push-in-Open-clause-sound g c =
    let rule = g.G.Goal.rule c.args.goal.now in
    let items = c.args.cells.now.items in
    let n = c.len-top.result - 1 in
    let first = c.index.result.now in
    let some : 0 < length items = omega (arith, c.requires.some, c.args.cells.now.ok.0) in
    let last : n ≡ length items - 1 = omega (arith, c.len-top.ensures, c.args.cells.now.ok.0) in
    let covers = subst (λ (cell : Cell). Covers (whole_cell rule.axes) (spans_of cell)) (sym c.index.ensures) (c.requires.covers n first (omega arith)) in
    single_reached rule (total_of c.args.best.now) first c.in-Some.single _ _ _ _ c.in-Open.bound _ (g.met.G.Goal.laws c.args.goal.now) covers c.in-Open.ensures.verdict
    (rw c.in-Some.is at (c.in_ok-single-in-Open.ensures (take n items) first (top_is items n first some last c.index.ensures))) c.lowest.ensures
