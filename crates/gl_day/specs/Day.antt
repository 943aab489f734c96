-- The sheet of a day, from the flights of its entrants.
use Rattle.std.specs.Prelude.{◌≡◌, ℕ, ◌-◌, List, map}
use Rattle.gl_points.specs.declared.performance.Performance.{Performance}
use Rattle.gl_points.specs.declared.summary.Summary.{Summary}
use Rattle.gl_points.specs.Summary.{IsSummaryOf}
use Rattle.gl_points.specs.Points.{points_earned}
use Rattle.gl_sheet.specs.declared.row.Row.{Row}
use Rattle.gl_sheet.specs.Sheet.{IsSheet}
use Rattle.gl_task.specs.declared.task.Task.{Task}
use Rattle.gl_day.specs.declared.flight.Flight.{Flight}

-- what counts of the flights for the points
abbrev pub performances_of : List Flight → List Performance
performances_of flights = map (λ flight. flight.performance) flights

-- The row of a flight, on a day with these figures: its points are those that it earned, less its
-- penalty and not below 0.
abbrev pub row_of : Summary → Flight → Row
row_of day flight = record {
  outcome = flight.outcome;
  metres = flight.performance.metres;
  seconds = flight.performance.seconds;
  penalty = flight.penalty;
  points = points_earned day flight.performance - flight.penalty;
  free = flight.free;
  triangle = flight.triangle;
}

-- rows are those of the flights of a day, by the figures of all its performances
pub record AreRows (flights : List Flight) (rows : List Row) : Type 0 where
  pub day : Summary
  pub figures : IsSummaryOf (performances_of flights) day
  pub each : rows ≡ map (row_of day) flights

-- A text is the sheet of the flights of a task.
pub record IsSheetOf (task : Task) (flights : List Flight) (text : List ℕ) : Type 0 where
  pub rows : List Row
  pub are : AreRows flights rows
  pub sheet : IsSheet task.entrants rows text
