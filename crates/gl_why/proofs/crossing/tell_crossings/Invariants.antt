use Rattle.gl_judge.specs.Choices.{numbers_before}
use Rattle.gl_why.specs.Crossings.{IsCrossingTold}
use Rattle.gl_why.specs.Facts.{AddsFacts, AreFound}
use Rattle.gl_why.proofs.crossing.tell_crossings.Given as goal

-- the fixes so far are told
abbrev pub invariant-fixes : goal.invariant-fixes
invariant-fixes l = AddsFacts (AreFound (IsCrossingTold l.start l.rec l.judged) (numbers_before l.judged.from l.b)) l.initial.lines l.lines
