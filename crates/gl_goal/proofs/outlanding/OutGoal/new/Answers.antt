use Rattle.gl_goal.specs.Lemmas.Out.{out_goal-is_goal}
use Rattle.gl_goal.proofs.Listed.{made-lists}
use Rattle.gl_goal.proofs.outlanding.OutGoal.new.Goals as goal

pub returns-clause-well_formed : goal.returns-clause-well_formed
returns-clause-well_formed c =
    out_goal-is_goal _ _ _ _ _ (made-lists _ _ c.in_ok-new.field-0 c.in_ok-new.ensures.fixes c.in_ok-new.ensures.lists c.requires.lists) c.requires.fixed
