use Rattle.std.proofs.Common.{sym, refl, subst, List}
use Rattle.gl_goal.specs.declared.leg.Leg.{Leg}
use Rattle.gl_pool.specs.declared.bench.Bench.{Bench}
use Rattle.gl_pool.proofs.Going.{going_heard}
use Rattle.gl_pool.proofs.step.finish.Goals as goal

pub stretch-requires-clause-at_work : goal.stretch-requires-clause-at_work
stretch-requires-clause-at_work g c =
    let some = c.requires.at_work in
    (c.loop.place, (some.0, c.loop.invariant.on some.0 some.1))

pub look-bench-requires : goal.look-bench-requires
look-bench-requires g c =
    let some = c.requires.at_work in
    record { seat = (c.in_ok-stretch.ensures.on c.loop.place some.0 (c.loop.invariant.on some.0 some.1)).same_seat.is_seat }

pub loop-preserved : goal.loop-preserved
loop-preserved g c =
    let rule = g.G.Goal.rule c.args.goal.now in
    let bench = c.stretch.new.bench in
    let heard : Bench = record { cells = bench.cells; legs = bench.legs; seen = c.look-bench.result; share = bench.share } in
    record {
      on = λ call way.
          c.in_ok-put_oldest.ensures.on rule c.args.word.now c.look-bench.new.seat call
          (going_heard rule c.args.word.now call c.loop.place c.stretch.new.seat bench heard (c.in_ok-stretch.ensures.on c.loop.place call (c.loop.invariant.on call way)) c.look-bench.new.seat
          (record { cells = refl; closed = refl; strange = refl }) refl c.look-bench.ensures.seen
          (record { is_seat = c.look-bench.ensures.seat; numbers = c.look-bench.ensures.numbers; no_less = c.look-bench.ensures.no_less }) c.look-bench.ensures.raised);
      legs = subst (λ (legs : List Leg). g.G.Goal.are_legs c.args.goal.now legs) (sym c.put_oldest.ensures.legs) c.in_ok-stretch.ensures.legs;
      trail = c.in_ok-put_oldest.ensures.trail c.in_ok-stretch.ensures.trail;
    }

pub returns-then-is_empty-clause-on : goal.returns-then-is_empty-clause-on
returns-then-is_empty-clause-on g c call way =
    let rule = g.G.Goal.rule c.args.goal.now in
    let bench = c.stretch.new.bench in
    let heard : Bench = record { cells = bench.cells; legs = bench.legs; seen = c.look-bench.result; share = bench.share } in
    going_heard rule c.args.word.now call c.loop.place c.stretch.new.seat bench heard (c.in_ok-stretch.ensures.on c.loop.place call (c.loop.invariant.on call way)) c.look-bench.new.seat
    (record { cells = refl; closed = refl; strange = refl }) refl c.look-bench.ensures.seen
    (record { is_seat = c.look-bench.ensures.seat; numbers = c.look-bench.ensures.numbers; no_less = c.look-bench.ensures.no_less }) c.look-bench.ensures.raised
