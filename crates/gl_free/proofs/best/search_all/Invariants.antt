use Rattle.std.specs.Prelude.{sum_by}
use Rattle.gl_goal.specs.FreeGoal.{rule_of}
use Rattle.gl_free.specs.Code.Ranges.{AreLeft, turns_of}
use Rattle.gl_free.specs.Code.Search.{AreFlanks, IsValid}
use Rattle.gl_free.proofs.best.search_all.Given as goal

abbrev pub invariant-loop-range : goal.invariant-loop-range
invariant-loop-range l = record {
  valid : IsValid (rule_of l.goal) l.search.best;
  flanks : AreFlanks l.hulls l.search;
  left : AreLeft l.hulls l.goal.loss l.search.best.total l.ranges.items;
}

abbrev pub decreases-loop-range : goal.decreases-loop-range
decreases-loop-range l = sum_by turns_of l.ranges.items
