use Rattle.std.proofs.Common.{◌∙◌, subst}
use Rattle.gl_pool.specs.Code.Trail.{IsTrail}
use Rattle.gl_pool.specs.Code.UnderWay.{Call}
use Rattle.gl_pool.proofs.Going.{going_end, going_none, going_start}
use Rattle.gl_pool.proofs.worker.work_on.Goals as goal

pub returns-in_default-clause-hauled : goal.returns-in_default-clause-hauled
returns-in_default-clause-hauled g c =
    going_none (g.G.Goal.rule c.args.goal.now) c.args.word.now c.args.place.now c.next_cell.new.place c.args.seat.now c.look-seen.new.seat c.empty.result c.empty.ensures.closed c.empty.ensures.strange
    c.empty.ensures.kept
    (record { is_seat = c.look-seen.ensures.seat; numbers = c.look-seen.ensures.numbers; no_less = c.look-seen.ensures.no_less }) c.look-seen.ensures.raised c.in_default.ensures

pub loop-init : goal.loop-init
loop-init g c = record {
  before = c.args.place.now;
  on = going_start (g.G.Goal.rule c.args.goal.now) c.args.word.now c.args.place.now c.args.seat.now c.look-seen.new.seat c.in_ok-bench.bench c.in_ok-bench.ensures.cells c.in_ok-bench.ensures.closed
      c.in_ok-bench.ensures.strange c.in_ok-bench.ensures.kept (c.in_ok-bench.ensures.seen ∙ c.look-seen.ensures.seen)
      (record { is_seat = c.look-seen.ensures.seat; numbers = c.look-seen.ensures.numbers; no_less = c.look-seen.ensures.no_less }) c.look-seen.ensures.raised;
  moved = c.in-Some.ensures;
  none = c.in_ok-bench.ensures.cells;
  legs = c.in_ok-bench.ensures.legs;
  trail = c.in_ok-bench.ensures.trail;
}

pub finish-requires-clause-at_work : goal.finish-requires-clause-at_work
finish-requires-clause-at_work g c =
    let call : Call = record { place = c.args.place.now; seat = c.args.seat.now } in
    let l = c.loop.invariant in
    (call, c.in_ok-begin.ensures.on c.args.word.now l.before c.loop.place c.loop.seat l.moved call l.on)

pub loop-preserved : goal.loop-preserved
loop-preserved g c =
    let call : Call = record { place = c.args.place.now; seat = c.args.seat.now } in
    let l = c.loop.invariant in
    record {
      before = c.finish.new.place;
      on = c.in_ok-finish.ensures.on call (c.in_ok-begin.ensures.on c.args.word.now l.before c.loop.place c.loop.seat l.moved call l.on);
      moved = c.in-Some-next_cell.ensures;
      none = c.in_ok-finish.ensures.none;
      legs = c.in_ok-finish.ensures.legs;
      trail = subst (IsTrail c.finish.new.bench.share.closed) c.in_ok-finish.ensures.none c.in_ok-finish.ensures.trail;
    }

pub returns-in_default-next_cell-clause-hauled : goal.returns-in_default-next_cell-clause-hauled
returns-in_default-next_cell-clause-hauled g c =
    let call : Call = record { place = c.args.place.now; seat = c.args.seat.now } in
    let l = c.loop.invariant in
    let way = c.in_ok-finish.ensures.on call (c.in_ok-begin.ensures.on c.args.word.now l.before c.loop.place c.loop.seat l.moved call l.on) in
    going_end (g.G.Goal.rule c.args.goal.now) c.args.word.now call c.finish.new.place c.next_cell-in-loop.new.place c.finish.new.seat c.finish.new.bench way c.in_ok-finish.ensures.none
    c.in_default-next_cell.ensures

pub returns-in_default-next_cell-clause-trail : goal.returns-in_default-next_cell-clause-trail
returns-in_default-next_cell-clause-trail g c = subst (IsTrail c.finish.new.bench.share.closed) c.in_ok-finish.ensures.none c.in_ok-finish.ensures.trail
