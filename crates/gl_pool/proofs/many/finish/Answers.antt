use Rattle.std.proofs.Common.{◌<◌, length, get_or, arith}
use Rattle.std.proofs.lemmas.List.{get_or_default}
use Rattle.gl_pool.proofs.Finishing.{comes_to_all, finishing_more, finishing_start}
use Rattle.gl_pool.proofs.many.finish.Goals as goal

pub loop-number-init : goal.loop-number-init
loop-number-init g c = record {
  is_tally = c.requires.tally;
  so_far = finishing_start (g.G.Goal.rule c.args.goal.now) c.args.places.now c.args.tally.now c.requires.left;
}

pub loop-number-preserved : goal.loop-number-preserved
loop-number-preserved g c =
    let l = c.loop-number in
    let inside : l.number < length l.places = omega (arith, c.loop-number-test.true, l.auto.places) in
    record {
      is_tally = c.in_ok-take_turn.ensures.tally;
      so_far = finishing_more (g.G.Goal.rule c.args.goal.now) c.args.places.now l.places c.args.tally.now l.tally c.take_turn.new.tally l.number
          (get_or l.places l.number c.index-places-number.result) c.take_turn.new.place inside
          (λ e. get_or_default l.places l.number e c.index-places-number.result inside) c.in_ok-take_turn.ensures.turn l.invariant.so_far;
    }

pub returns-clause-all : goal.returns-clause-all
returns-clause-all g c =
    comes_to_all (g.G.Goal.rule c.args.goal.now) c.args.places.now c.loop-number.places c.args.tally.now c.loop-number.tally c.loop-number.number
    (omega (arith, c.loop-number-test.false, c.loop-number.auto.places)) c.loop-number.invariant.so_far

pub returns-clause-numbers : goal.returns-clause-numbers
returns-clause-numbers g c = c.loop-number.invariant.so_far.numbers
