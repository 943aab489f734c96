-- The standing as text: records of csv's default writer, the pilots' and, where there is a team,
-- the teams'.
use Rattle.std.specs.Prelude.{ℕ, ◌==◌, List, [], ◌∷◌, ◌++◌, codes, if◌then◌else◌, length, map}
use Rattle.std.specs.Fmt.{decimal}
use Rattle.std.specs.List.{flat_map}
use Rattle.csv.specs.Writing.{default_writer, row_text}
use Rattle.gl_series.specs.declared.standing.Standing.{Standing}
use Rattle.gl_series.specs.declared.standing.TeamTotal.{TeamTotal}
use Rattle.gl_series.specs.declared.standing.Total.{Total}

-- the names of the columns of the pilots, and what a pilot's columns say
abbrev pub pilot_heading : List (List ℕ)
pilot_heading =
    codes "rank" ∷ codes "number" ∷ codes "name" ∷ codes "total" ∷ codes "dropped" ∷ []

abbrev pub pilot_fields : Total → List (List ℕ)
pilot_fields pilot =
    decimal pilot.rank ∷ pilot.number ∷ pilot.name ∷ decimal pilot.total
    ∷ decimal pilot.dropped ∷ []

-- the same of the teams
abbrev pub team_heading : List (List ℕ)
team_heading = codes "rank" ∷ codes "team" ∷ codes "total" ∷ []

abbrev pub team_fields : TeamTotal → List (List ℕ)
team_fields team = decimal team.rank ∷ team.team ∷ decimal team.total ∷ []

-- the text of records, each as the default writer writes it
abbrev pub records_text : List (List (List ℕ)) → List ℕ
records_text records = flat_map (row_text default_writer) records

-- the whole text
abbrev pub standing_text : Standing → List ℕ
standing_text standing =
    records_text (pilot_heading ∷ map pilot_fields standing.pilots)
    ++ (if length standing.teams == 0 then []
    else records_text (team_heading ∷ map team_fields standing.teams))
