-- How a list grows by the entry of one more line.
use Rattle.std.specs.Prelude.{◌≡◌, ℕ, ◌+◌, ◌≤◌, List, ◌∷◌, ◌++◌, length, drop, ⊤}
use Rattle.gl_text.specs.Lines.{lines_of}
use Rattle.gl_series.specs.declared.entry.Entry.TheVariants.{Team}
use Rattle.gl_series.specs.declared.entry.Entry.{Entry}
use Rattle.gl_series.specs.declared.error.ListError.{ListError}
use Rattle.gl_series.specs.declared.error.ListError.TheVariants.{Heading, Line, Memory}
use Rattle.gl_series.specs.declared.series.Member.{Member}
use Rattle.gl_series.specs.declared.series.Series.{Series}
use Rattle.gl_series.specs.OneByOne.{Reads, StopsBehind}
use Rattle.gl_series.specs.SeriesList.{Fit, IsEntry, IsLineOf, IsSeries, day_of, heading, line_of, member_of, series_of}

-- days and members with those of one more entry
abbrev pub with_entry : List (List ℕ) → List Member → Entry → Series
with_entry days teams entry =
    record { days = days ++ day_of entry; teams = teams ++ member_of entry }

-- the entry of a line, which fits to the days and members before it
pub record IsNext (days : List (List ℕ)) (teams : List Member) (line : List ℕ)
    (entry : Entry) : Type 0 where
  pub is_line : IsLineOf line entry
  pub fits : IsSeries (with_entry days teams entry)

-- the lines behind the heading are those of these days and members
pub record Says (lines : List (List ℕ)) (series : Series) : Type 0 where
  pub entries : List Entry
  pub reads : Reads IsLineOf Fit lines entries
  pub says : series ≡ series_of entries

-- the first lines are those of these days and members, and these follow
pub record SaysUpTo (lines rest : List (List ℕ)) (series : Series) : Type 0 where
  pub front : List (List ℕ)
  pub parts : lines ≡ front ++ rest
  pub says : Says front series

-- the lines behind the heading stop to read at the line with this number
pub record StopsAt (lines : List (List ℕ)) (number : ℕ) : Type 0 where
  pub count : ℕ
  pub stops : StopsBehind IsLineOf Fit lines count
  pub number_is : number ≡ count + 2

-- why the lines behind the heading don't read; want of memory can always be told
abbrev pub IsStopped : List (List ℕ) → ListError → Type 0
IsStopped lines Heading = ⊥
IsStopped lines (Line number) = StopsAt lines number
IsStopped lines Memory = ⊤

-- the place behind the first line, which is the heading
pub record IsBehindHeading (text : List ℕ) (place : ℕ) : Type 0 where
  pub within : place ≤ length text
  pub lines : lines_of text ≡ heading ∷ lines_of (drop place text)

-- a member's number and team, and the line that says them
abbrev pub IsMember : List ℕ → List ℕ → Type 0
IsMember number team = IsEntry (Team (record { number = number; team = team }))

abbrev pub member_line : List ℕ → List ℕ → List ℕ
member_line number team = line_of (Team (record { number = number; team = team }))
