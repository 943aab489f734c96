use Rattle.gl_judge.proofs.Numbers.{number-more}
use Rattle.gl_judge.proofs.zone_lists.numbers_of.Goals as goal

pub loop-i-preserved : goal.loop-i-preserved
loop-i-preserved c = number-more _ _ _ _ c.loop-i.auto.i c.in_ok-push.ensures.items c.loop-i.invariant
