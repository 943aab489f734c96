use Rattle.std.proofs.Common.{◌≡◌, ◌∙◌, sym, ap, subst, refl, ℕ, ◌-◌, ◌<◌, List, [], ◌∷◌, ◌++◌, length, take, map, Option, Some, arith}
use Rattle.std.proofs.lemmas.List.{append-nil}
use Rattle.gl_box.specs.declared.cell.Cell.{Cell}
use Rattle.gl_box.specs.declared.closed.Why.{Why}
use Rattle.gl_box.specs.declared.closed.Why.TheVariants.{Bound}
use Rattle.gl_box.specs.Along.{Closes, Cuts, StaysSingle}
use Rattle.gl_box.specs.Cell.{Covers, spans_of}
use Rattle.gl_box.specs.Tuple.{places_of}
use Rattle.gl_box.specs.Turns.{reason_of}
use Rattle.gl_box.proofs.Turns.{single_closed, turn_added}
use Rattle.gl_goal.specs.Goal.{whole_cell}
use Rattle.gl_goal.specs.Certificate.{IsClosedFor}
use Rattle.gl_goal.specs.declared.best.Best.{Best}
use Rattle.gl_plain.specs.CellVerdict.{Promises}
use Rattle.gl_plain.proofs.Stack.{single_reached}
use Rattle.gl_best.specs.Seats.{view_of}
use Rattle.gl_pool.specs.declared.bench.Bench.{Bench}
use Rattle.gl_pool.specs.Kept.{seen_by}
use Rattle.gl_pool.specs.Trail.{boxes_in}
use Rattle.gl_pool.proofs.Going.{going_closed, going_cut, going_kept}
use Rattle.gl_pool.proofs.Hearing.{closed_by_word}
use Rattle.gl_pool.proofs.Parting.{FromIn, from_covered}
use Rattle.gl_pool.proofs.Trails.{closed_on, cut_on, turns_in}
use Rattle.gl_pool.proofs.step.step.Goals as goal
use Rattle.gl_text.proofs.Lists.{top_is}

pub test_for-requires-clause-covers : goal.test_for-requires-clause-covers
test_for-requires-clause-covers g c =
    let rule = g.G.Goal.rule c.args.goal.now in
    let way = c.requires.at_work.1.1 in
    let seen = seen_by c.requires.at_work.1.0.seat in
    let below : c.len-top.result - 1 < length c.args.bench.now.cells.items = omega (arith, c.len-top.ensures, c.requires.some, c.args.bench.now.cells.ok.0) in
    from_covered rule seen way.taken (spans_of c.index.result.now) (subst (FromIn rule seen way.taken) (sym c.index.ensures) (way.parts.cells_are (c.len-top.result - 1) c.index.result.now below))

pub returns-in_ok-settle-in-Closed-clause-on : goal.returns-in_ok-settle-in-Closed-clause-on
returns-in_ok-settle-in-Closed-clause-on g c place call way =
    let rule = g.G.Goal.rule c.args.goal.now in
    let bench = c.args.bench.now in
    let items = bench.cells.items in
    let n = c.len-top.result - 1 in
    let first = c.index.result.now in
    let top = top_is items n first (omega (arith, c.requires.some, bench.cells.ok.0)) (omega (arith, c.len-top.ensures, bench.cells.ok.0)) c.index.ensures in
    let closes = (c.in_ok-settle-in-Closed.ensures (take n items) first top).0 in
    going_closed rule c.args.word.now call place c.args.seat.now bench _ way first c.in-Closed.why closes.top
    (closed_on bench.share.closed first items _ _ c.in-Closed.why c.requires.trail closes).boxes refl refl refl c.in-Closed.ensures.verdict

pub returns-in_ok-settle-in-Closed-clause-trail : goal.returns-in_ok-settle-in-Closed-clause-trail
returns-in_ok-settle-in-Closed-clause-trail g c =
    let bench = c.args.bench.now in
    let items = bench.cells.items in
    let n = c.len-top.result - 1 in
    let first = c.index.result.now in
    let top = top_is items n first (omega (arith, c.requires.some, bench.cells.ok.0)) (omega (arith, c.len-top.ensures, bench.cells.ok.0)) c.index.ensures in
    record {
      passed = c.requires.trail.passed;
      leads = (closed_on bench.share.closed first items _ _ c.in-Closed.why c.requires.trail (c.in_ok-settle-in-Closed.ensures (take n items) first top).0).leads;
    }

pub returns-in_default-clause-on : goal.returns-in_default-clause-on
returns-in_default-clause-on g c place call way =
    let rule = g.G.Goal.rule c.args.goal.now in
    let bench = c.args.bench.now in
    let items = bench.cells.items in
    let n = c.len-top.result - 1 in
    let first = c.index.result.now in
    let top = top_is items n first (omega (arith, c.requires.some, bench.cells.ok.0)) (omega (arith, c.len-top.ensures, bench.cells.ok.0)) c.index.ensures in
    let trail = bench.share.closed in
    let cuts : Cuts first items c.settle-in-Open.new.opened.items (turns_in trail) (map reason_of c.settle-in-Open.new.turns.items) = rw c.in_default.is at (c.in_ok-single-in-Open.ensures (take n items) first top) in
    going_cut rule c.args.word.now call place c.args.seat.now bench _ way cuts.rest first cuts.lower cuts.upper c.in-Open.bound cuts.top cuts.cut
    ((cut_on trail first items _ _ c.requires.trail cuts).boxes ∙ append-nil (boxes_in trail)) refl refl refl cuts.halves c.in-Open.ensures.verdict

pub returns-in_default-clause-trail : goal.returns-in_default-clause-trail
returns-in_default-clause-trail g c =
    let bench = c.args.bench.now in
    let items = bench.cells.items in
    let n = c.len-top.result - 1 in
    let first = c.index.result.now in
    let top = top_is items n first (omega (arith, c.requires.some, bench.cells.ok.0)) (omega (arith, c.len-top.ensures, bench.cells.ok.0)) c.index.ensures in
    record { passed = c.requires.trail.passed; leads = (cut_on bench.share.closed first items _ _ c.requires.trail (rw c.in_default.is at (c.in_ok-single-in-Open.ensures (take n items) first top))).leads }

pub raise-requires-clause-total : goal.raise-requires-clause-total
raise-requires-clause-total g c =
    let rule = g.G.Goal.rule c.args.goal.now in
    let laws = g.met.G.Goal.laws c.args.goal.now in
    let way = c.requires.at_work.1.1 in
    let from = seen_by c.requires.at_work.1.0.seat in
    let bench = c.args.bench.now in
    let items = bench.cells.items in
    let n = c.len-top.result - 1 in
    let first = c.index.result.now in
    let some : 0 < length items = omega (arith, c.requires.some, bench.cells.ok.0) in
    let last : n ≡ length items - 1 = omega (arith, c.len-top.ensures, bench.cells.ok.0) in
    let covers = from_covered rule from way.taken (spans_of first) (subst (FromIn rule from way.taken) (sym c.index.ensures) (way.parts.cells_are n first (omega arith))) in
    let reached = single_reached rule bench.seen first c.in-Some.single _ _ _ _ c.in-Open.bound (places_of c.lowest.result) laws covers c.in-Open.ensures.verdict
    (rw c.in-Some.is at (c.in_ok-single-in-Open.ensures (take n items) first (top_is items n first some last c.index.ensures))) c.lowest.ensures in
    omega (arith, laws.limited (places_of c.lowest.result) reached.legal.is_tuple, reached.worth)

pub returns-in_ok-push-in-Open-clause-on : goal.returns-in_ok-push-in-Open-clause-on
returns-in_ok-push-in-Open-clause-on g c place call way =
    let rule = g.G.Goal.rule c.args.goal.now in
    let laws = g.met.G.Goal.laws c.args.goal.now in
    let bench = c.args.bench.now in
    let items = bench.cells.items in
    let n = c.len-top.result - 1 in
    let first = c.index.result.now in
    let some : 0 < length items = omega (arith, c.requires.some, bench.cells.ok.0) in
    let last : n ≡ length items - 1 = omega (arith, c.len-top.ensures, bench.cells.ok.0) in
    let trail = bench.share.closed in
    let from = seen_by call.seat in
    let covers = from_covered rule from way.taken (spans_of first) (subst (FromIn rule from way.taken) (sym c.index.ensures) (way.parts.cells_are n first (omega arith))) in
    let stays : StaysSingle first c.in-Some.single items c.settle-in-Open.new.opened.items (turns_in trail) (map reason_of c.settle-in-Open.new.turns.items) =
    rw c.in-Some.is at (c.in_ok-single-in-Open.ensures (take n items) first (top_is items n first some last c.index.ensures)) in
    let promises : Promises rule bench.seen (spans_of first) c.in-Open.bound = c.in-Open.ensures.verdict in
    let reached = single_reached rule bench.seen first c.in-Some.single _ _ _ _ c.in-Open.bound (places_of c.lowest.result) laws covers promises stays c.lowest.ensures in
    let best : Best = record { total = c.in-Open.bound; tuple = c.lowest.result } in
    let keeps : Bench = record { cells = bench.cells; legs = bench.legs; seen = c.look-bench.result; share = record { kept = Some best; closed = trail; strange = bench.share.strange } } in
    let kept = going_kept rule c.args.word.now call place c.args.seat.now bench keeps way c.look-bench.new.seat best
    (record { cells = refl; closed = refl; strange = refl }) refl c.look-bench.ensures.seen
    (record { is_seat = c.look-bench.ensures.seat; numbers = c.look-bench.ensures.numbers ∙ c.raise.ensures.numbers; no_less = omega (arith, c.look-bench.ensures.no_less, c.raise.ensures.no_less) })
    (c.look-bench.ensures.raised ∙ c.raise.ensures.raised) reached promises.above in
    let closes = single_closed first c.in-Some.single items _ _ _ _ Bound stays
    (turn_added reason_of c.settle-in-Open.new.turns.items c.push.new.self.items c.close.result (Some Bound) c.in_ok-push-in-Open.ensures.items c.close.ensures) in
    going_closed rule c.args.word.now call place c.look-bench.new.seat keeps _ kept first Bound closes.top (closed_on trail first items _ _ Bound c.requires.trail closes).boxes refl refl refl
    (subst (λ (total : Option ℕ). IsClosedFor rule total (spans_of first) Bound) (sym c.look-bench.ensures.seen)
    (closed_by_word rule (view_of c.look-bench.new.seat).seen (spans_of first) c.in-Open.bound (omega (arith, c.look-bench.ensures.no_less, c.raise.ensures.seen)) (sym promises.is_bound)))

pub returns-in_ok-push-in-Open-clause-trail : goal.returns-in_ok-push-in-Open-clause-trail
returns-in_ok-push-in-Open-clause-trail g c =
    let trail = c.args.bench.now.share.closed in
    let items = c.args.bench.now.cells.items in
    let n = c.len-top.result - 1 in
    let first = c.index.result.now in
    let some : 0 < length items = omega (arith, c.requires.some, c.args.bench.now.cells.ok.0) in
    let last : n ≡ length items - 1 = omega (arith, c.len-top.ensures, c.args.bench.now.cells.ok.0) in
    let stays : StaysSingle first c.in-Some.single items c.settle-in-Open.new.opened.items (turns_in trail) (map reason_of c.settle-in-Open.new.turns.items) =
    rw c.in-Some.is at (c.in_ok-single-in-Open.ensures (take n items) first (top_is items n first some last c.index.ensures)) in
    let closes = single_closed first c.in-Some.single items _ _ _ _ Bound stays
    (turn_added reason_of c.settle-in-Open.new.turns.items c.push.new.self.items c.close.result (Some Bound) c.in_ok-push-in-Open.ensures.items c.close.ensures) in
    record { passed = c.requires.trail.passed; leads = (closed_on trail first items _ _ Bound c.requires.trail closes).leads }
