-- The fields of a line of the sheet.
use Rattle.std.specs.Prelude.{ℕ, ◌+◌, nat_lt, List, [], ◌∷◌, ◌++◌, codes, count_by}
use Rattle.std.specs.Fmt.{decimal}
use Rattle.gl_text.specs.Numbers.{fixed}
use Rattle.gl_task.specs.declared.task.Entrant.{Entrant}
use Rattle.gl_sheet.specs.declared.row.Row.{Row}
use Rattle.gl_sheet.specs.declared.row.Outcome as outcome
use Rattle.gl_sheet.specs.declared.row.Outcome.TheVariants.{Finished, Outlanded, NoStart, NotLaunched, Refused}
use Rattle.gl_sheet.specs.declared.row.Listed as listed
use Rattle.gl_sheet.specs.declared.row.Listed.TheVariants.{Unasked, Empty, Total}

-- the column `result`
abbrev pub result_text : outcome.Outcome → List ℕ
result_text Finished = codes "FINISHED"
result_text Outlanded = codes "OUTLANDED"
result_text NoStart = codes "NOSTART"
result_text NotLaunched = codes "NOTLAUNCHED"
result_text (Refused number) = codes "REFUSED " ++ decimal number

-- the metres, 0 without a start
abbrev pub metres_shown : outcome.Outcome → ℕ → ℕ
metres_shown Finished metres = metres
metres_shown Outlanded metres = metres
metres_shown NoStart metres = 0
metres_shown NotLaunched metres = 0
metres_shown (Refused _) metres = 0

-- the seconds, of a finisher alone
abbrev pub seconds_text : outcome.Outcome → ℕ → List ℕ
seconds_text Finished seconds = decimal seconds
seconds_text Outlanded seconds = []
seconds_text NoStart seconds = []
seconds_text NotLaunched seconds = []
seconds_text (Refused _) seconds = []

-- a list column: nothing where the list isn't asked for, `-` without a flight, else metres with two
-- decimals
abbrev pub listed_text : listed.Listed → List ℕ
listed_text Unasked = []
listed_text Empty = codes "-"
listed_text (Total centimetres) = fixed 2 centimetres

-- the rank: one more than the number of entrants with more points
abbrev pub rank_of : List Row → ℕ → ℕ
rank_of rows points = count_by (λ other. nat_lt points other.points) rows + 1

-- the names of the columns
abbrev pub heading : List (List ℕ)
heading =
    codes "rank" ∷ codes "number" ∷ codes "name" ∷ codes "result" ∷ codes "metres"
    ∷ codes "seconds" ∷ codes "penalty" ∷ codes "points" ∷ codes "free" ∷ codes "triangle" ∷ []

-- who it is: rank, number and name
abbrev pub standing_fields : ℕ → Entrant → List (List ℕ)
standing_fields rank entrant = decimal rank ∷ entrant.number ∷ entrant.name ∷ []

-- what the flight was: result, metres and seconds
abbrev pub flight_fields : Row → List (List ℕ)
flight_fields row =
    result_text row.outcome ∷ decimal (metres_shown row.outcome row.metres)
    ∷ seconds_text row.outcome row.seconds ∷ []

-- what it earned: penalty and points
abbrev pub point_fields : Row → List (List ℕ)
point_fields row = decimal row.penalty ∷ decimal row.points ∷ []

-- the two list columns
abbrev pub list_fields : Row → List (List ℕ)
list_fields row = listed_text row.free ∷ listed_text row.triangle ∷ []

-- all fields of a line
abbrev pub fields : List Row → Entrant × Row → List (List ℕ)
fields rows line =
    standing_fields (rank_of rows line.1.points) line.0 ++ flight_fields line.1
    ++ point_fields line.1 ++ list_fields line.1
