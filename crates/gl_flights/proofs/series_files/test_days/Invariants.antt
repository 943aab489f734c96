use Rattle.std.proofs.Common.{None, take}
use Rattle.gl_desk.specs.Answers.{OnlyReads}
use Rattle.gl_flights.proofs.SeriesTests.{AreDaysTested}
use Rattle.gl_flights.proofs.series_files.test_days.Given as goal

-- the days so far passed, and have the sheets so far
abbrev pub invariant-loop-file : goal.invariant-loop-file
invariant-loop-file g l = record {
  reads : OnlyReads None (g.D.Desk.told l.fn.desk) (g.D.Desk.told l.desk);
  tested : AreDaysTested (g.D.Desk.told l.fn.desk).folder (take l.file-index l.files) l.sheets.items;
}
