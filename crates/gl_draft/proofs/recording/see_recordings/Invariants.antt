use Rattle.std.proofs.Common.{None, take}
use Rattle.gl_desk.specs.Answers.{OnlyReads}
use Rattle.gl_draft.specs.Recordings.{IsRecordingOf, Pairwise}
use Rattle.gl_draft.proofs.recording.see_recordings.Given as goal

-- the recordings of the names so far; the desk was only read
abbrev pub invariant-names : goal.invariant-names
invariant-names g l = record {
  are : Pairwise (IsRecordingOf (g.D.Desk.told l.fn.desk).folder) (take l.name-index l.names) l.recordings.items;
  reads : OnlyReads None (g.D.Desk.told l.fn.desk) (g.D.Desk.told l.desk);
}
