use Rattle.std.proofs.Common.{◌-◌, ◌≤◌, length}
use Rattle.gl_goal.specs.FreeGoal.{rule_of}
use Rattle.gl_free.specs.Code.Halves.{AreAmong}
use Rattle.gl_free.specs.Code.Search.{IsValid}
use Rattle.gl_free.proofs.HalfLemmas.{AreDone}
use Rattle.gl_free.proofs.halves.Halves.middles.Given as goal

abbrev pub invariant-loop-middle : goal.invariant-loop-middle
invariant-loop-middle l = record {
  valid : IsValid (rule_of l.goal) l.best;
  raised : l.fn.best.total ≤ l.best.total;
  guess : AreAmong l.goal.hulls l.guess;
  done : AreDone l.goal.hulls l.sides (0, length l.goal.hulls - 1) l.best.total l.middle;
}
