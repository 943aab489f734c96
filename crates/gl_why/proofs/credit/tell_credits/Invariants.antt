use Rattle.gl_judge.specs.Choices.{numbers_before}
use Rattle.gl_why.specs.Credits.{IsCreditTold}
use Rattle.gl_why.specs.Facts.{AddsFacts, AreFound}
use Rattle.gl_why.proofs.credit.tell_credits.Given as goal

-- the places so far are told
abbrev pub invariant-places : goal.invariant-places
invariant-places l = AddsFacts (AreFound (IsCreditTold l.fixes l.choice) (numbers_before 0 l.k)) l.initial.lines l.lines
