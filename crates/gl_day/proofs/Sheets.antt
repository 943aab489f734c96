-- The flights of a task have one sheet.
use Rattle.std.proofs.Common.{◌≡◌, ◌∙◌, refl, sym, ap, subst, ℕ, ◌-◌, ◌≤◌, List, [], ◌∷◌, length, map, arith}
use Rattle.std.specs.Prelude.{All, Contains, IsTrue}
use Rattle.std.proofs.Props.{props}
use Rattle.std.proofs.lemmas.List.{length-map}
use Rattle.std.proofs.lemmas.List.Elements.{All-contains_itself, All-head, All-tail, All-weaker}
use mathlib.Core.HLevel.{is_prop→PathP}
use Rattle.gl_points.specs.declared.performance.Performance.{Performance}
use Rattle.gl_points.specs.declared.summary.Summary.{Summary}
use Rattle.gl_points.specs.Limits.{distance_limit, handicap_limit, performance_limit, time_limit}
use Rattle.gl_points.specs.Points.{points_earned}
use Rattle.gl_points.proofs.SomeDay.{points_same, some_day}
use Rattle.gl_sheet.specs.declared.row.Row.{Row}
use Rattle.gl_sheet.specs.Sheet.{IsSheet}
use Rattle.gl_sheet.proofs.OneOrder.{one_text}
use Rattle.gl_sheet.proofs.SomeOrder.{some_text}
use Rattle.gl_task.specs.declared.task.Task.{Task}
use Rattle.gl_day.specs.declared.flight.Flight.{Flight}
use Rattle.gl_day.specs.Day.{AreRows, IsSheetOf, performances_of, row_of}

-- two performances with the same data are one
pub performance_same : (p q : Performance) → p.launched ≡ q.launched → p.finished ≡ q.finished → p.metres ≡ q.metres → p.seconds ≡ q.seconds → p.handicap ≡ q.handicap → p ≡ q
performance_same p q launched finished metres seconds handicap = λ i. record {
  launched = launched i;
  finished = finished i;
  metres = metres i;
  seconds = seconds i;
  handicap = handicap i;
  metres_at_most = is_prop→PathP (λ j. metres j ≤ distance_limit) (λ j. hlevel props) p.metres_at_most q.metres_at_most i;
  seconds_at_most = is_prop→PathP (λ j. seconds j ≤ time_limit) (λ j. hlevel props) p.seconds_at_most q.seconds_at_most i;
  seconds_at_least = is_prop→PathP (λ j. IsTrue (finished j) → 1 ≤ seconds j) (λ j. hlevel props) p.seconds_at_least q.seconds_at_least i;
  handicap_at_least = is_prop→PathP (λ j. 1 ≤ handicap j) (λ j. hlevel props) p.handicap_at_least q.handicap_at_least i;
  handicap_at_most = is_prop→PathP (λ j. handicap j ≤ handicap_limit) (λ j. hlevel props) p.handicap_at_most q.handicap_at_most i;
  launched_to_finish = is_prop→PathP (λ j. IsTrue (finished j) → IsTrue (launched j)) (λ j. hlevel props) p.launched_to_finish q.launched_to_finish i;
}

-- two flights with the same data are one
pub flight_same : (a b : Flight) → a.outcome ≡ b.outcome → a.performance.launched ≡ b.performance.launched → a.performance.finished ≡ b.performance.finished
    → a.performance.metres ≡ b.performance.metres → a.performance.seconds ≡ b.performance.seconds → a.performance.handicap ≡ b.performance.handicap → a.penalty ≡ b.penalty → a.free ≡ b.free
    → a.triangle ≡ b.triangle → a ≡ b
flight_same a b outcome launched finished metres seconds handicap penalty free triangle =
    let performance = performance_same a.performance b.performance launched finished metres seconds handicap in
    λ i. record { outcome = outcome i; performance = performance i; penalty = penalty i; free = free i; triangle = triangle i }

-- the row of a flight that earned some points
abbrev row_with : Flight → ℕ → Row
row_with flight earned = record {
  outcome = flight.outcome;
  metres = flight.performance.metres;
  seconds = flight.performance.seconds;
  penalty = flight.penalty;
  points = earned - flight.penalty;
  free = flight.free;
  triangle = flight.triangle;
}

rows_same : (one other : Summary) (flights : List Flight) → All (λ p. points_earned one p ≡ points_earned other p) (performances_of flights) → map (row_of one) flights ≡ map (row_of other) flights
rows_same one other [] same = refl
rows_same one other (flight ∷ flights) same =
    let P : Performance → Type 0 = λ p. points_earned one p ≡ points_earned other p in
    let first : row_of one flight ≡ row_of other flight = ap (row_with flight) (All-head P flight.performance (performances_of flights) same) in
    let rest = rows_same one other flights (All-tail P flight.performance (performances_of flights) same) in
    λ i. first i ∷ rest i

-- the rows of flights are one list, whatever figures of their performances they are by
pub rows-one : (flights : List Flight) (one other : List Row) → AreRows flights one → AreRows flights other → one ≡ other
rows-one flights one other first second =
    let list = performances_of flights in
    let P : Performance → Type 0 = λ p. points_earned first.day p ≡ points_earned second.day p in
    let same = All-weaker (Contains list) P (λ p among. points_same list first.day second.day p among first.figures second.figures) list (All-contains_itself list) in
    first.each ∙ rows_same first.day second.day flights same ∙ sym second.each

-- the flights of a task have one sheet: two texts that are both their sheet are one
pub sheet_of-one : (task : Task) (flights others : List Flight) (one other : List ℕ) → flights ≡ others → IsSheetOf task flights one → IsSheetOf task others other → one ≡ other
sheet_of-one task flights others one other same first second =
    let theirs : AreRows flights second.rows = subst (λ (list : List Flight). AreRows list second.rows) (sym same) second.are in
    let rows : first.rows ≡ second.rows = rows-one flights first.rows second.rows first.are theirs in
    one_text task second.rows one other (subst (λ (list : List Row). IsSheet task.entrants list one) rows first.sheet) second.sheet

-- flights of all entrants of a task have a sheet
pub some_sheet : (task : Task) (flights : List Flight) → length flights ≡ length task.entrants → (text : List ℕ) × IsSheetOf task flights text
some_sheet task flights all =
    let few : length (performances_of flights) ≤ performance_limit = omega (arith, length-map flights (λ (flight : Flight). flight.performance), all, task.at_most_200_entrants) in
    let day = some_day (performances_of flights) few in
    let rows = map (row_of day.0) flights in
    let text = some_text task.entrants rows in
    (text.0, record { rows = rows; are = record { day = day.0; figures = day.1; each = refl }; sheet = text.1 })
