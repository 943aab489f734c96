use Rattle.gl_box.proofs.Work.{work_falls}
use Rattle.gl_near.proofs.Stack.{pairs_short, under_way_on}
use Rattle.gl_near.proofs.search.run.Goals as goal

pub advance-requires-clause-covers : goal.advance-requires-clause-covers
advance-requires-clause-covers c = c.loop-best.invariant.covered

pub loop-best-smaller : goal.loop-best-smaller
loop-best-smaller c = work_falls _ _ _ _ _ _ c.in_ok-advance.ensures.step

pub loop-best-preserved : goal.loop-best-preserved
loop-best-preserved c =
    under_way_on _ _ _ _ _ _ _ (pairs_short c.args.pairs.now) c.in_ok-advance.ensures.sound c.in_ok-advance.ensures.falls c.loop-best.invariant c.in_ok-advance.ensures.step
