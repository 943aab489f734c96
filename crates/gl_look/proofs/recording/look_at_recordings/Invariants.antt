use Rattle.std.proofs.Common.{None, take}
use Rattle.gl_desk.specs.Answers.{OnlyReads}
use Rattle.gl_look.specs.Flights.{AddsTold, AreTold, IsFileTold}
use Rattle.gl_look.proofs.recording.look_at_recordings.Given as goal

-- the entrants so far are remarked; the desk was only read
abbrev pub invariant-entrants : goal.invariant-entrants
invariant-entrants g l = record {
  told : AddsTold (AreTold (IsFileTold (g.D.Desk.told l.fn.desk).folder l.names l.task) (take l.entrant-index l.entrants)) l.initial.remarks l.remarks;
  reads : OnlyReads None (g.D.Desk.told l.fn.desk) (g.D.Desk.told l.desk);
}
