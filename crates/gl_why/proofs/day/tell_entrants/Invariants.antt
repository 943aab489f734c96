use Rattle.std.proofs.Common.{◌≡◌, None, length, take}
use Rattle.std.specs.Prelude.{option_map}
use Rattle.gl_desk.specs.Answers.{OnlyReads}
use Rattle.gl_why.specs.Entrants.{IsToldIfWanted}
use Rattle.gl_why.specs.Facts.{AddsFacts, AreFlown}
use Rattle.gl_why.proofs.day.tell_entrants.Given as goal

-- the entrants so far are told, and their flights are kept; the desk was only read
abbrev pub invariant-entrants : goal.invariant-entrants
invariant-entrants g l = record {
  told : AddsFacts (AreFlown (IsToldIfWanted (option_map (λ number. number.now) l.fn.choice) (g.D.Desk.told l.fn.desk).folder l.names l.task l.air) (take l.entrant-index l.entrants) l.flights.items)
      l.initial.lines l.lines;
  as_many : length l.flights.items ≡ l.entrant-index;
  reads : OnlyReads None (g.D.Desk.told l.fn.desk) (g.D.Desk.told l.desk);
}
