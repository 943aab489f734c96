use Rattle.std.specs.Prelude.{option_map}
use Rattle.gl_judge.specs.Choices.{numbers_before}
use Rattle.gl_why.specs.Facts.{AddsFacts, AreFound}
use Rattle.gl_why.specs.Results.{IsResultAt}
use Rattle.gl_why.proofs.results.tell_each.Given as goal

-- the places so far are told
abbrev pub invariant-places : goal.invariant-places
invariant-places l =
    AddsFacts (AreFound (IsResultAt (option_map (λ number. number.now) l.choice) l.entrants l.flights l.day) (numbers_before 0 l.i)) l.initial.lines l.lines
