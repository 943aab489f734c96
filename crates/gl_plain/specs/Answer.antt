-- What a search with boxes promises of its answer, however many workers it has.
use Rattle.std.specs.Prelude.{◌↔◌, IsNone}
use Rattle.gl_goal.specs.Goal.{Goal, HasNoLegal, IsOptimum}
use Rattle.gl_plain.specs.declared.found.Found.{Found}
use Rattle.gl_plain.specs.Found.{AreNeeded, HoldsEachOnce, IsCertified}
use Rattle.gl_goal.specs.Best.{IsSound, total_of}

-- Its boxes certify what was found: a legal tuple and its value, the optimum, or nothing exactly
-- where no tuple is legal. Each tuple lies in exactly one of the boxes, and each box is the whole
-- cell, or a half of a node that had to be cut.
pub record IsAnswer (goal : Goal) (found : Found) : Type 0 where
  pub certificate : IsCertified goal found
  pub once : HoldsEachOnce goal found
  pub reached : IsSound goal found.best
  pub optimum : IsOptimum goal (total_of found.best)
  pub none : IsNone found.best ↔ HasNoLegal goal
  pub needed : AreNeeded goal found
