-- The text of a list: its heading, and then a line for each day and each member of a team.
use Rattle.std.specs.Prelude.{◌≡◌, ◌≢◌, ℕ, ◌+◌, ◌≤◌, List, [], ◌∷◌, ◌++◌, length, codes, ⊤, AllPairs, IsTrue, IsUtf8}
use Rattle.std.specs.List.{flat_map}
use Rattle.gl_text.specs.Lines.{lines_of}
use Rattle.gl_series.specs.declared.entry.Entry.{Entry}
use Rattle.gl_series.specs.declared.entry.Entry.TheVariants.{Day, Team}
use Rattle.gl_series.specs.declared.error.ListError.{ListError}
use Rattle.gl_series.specs.declared.error.ListError.TheVariants.{Heading, Line, Memory}
use Rattle.gl_series.specs.declared.series.Member.{Member}
use Rattle.gl_series.specs.declared.series.Series.{Series}
use Rattle.gl_text.specs.Forms.{is_file_name, is_number}
use Rattle.gl_series.specs.Forms.{is_team}
use Rattle.gl_series.specs.OneByOne.{Reads, StopsBehind}

-- the first line
abbrev pub heading : List ℕ
heading = codes "GLIDESERIES 1"

-- the line of an entry; one space, the byte 32, stands between its parts
abbrev pub line_of : Entry → List ℕ
line_of (Day name) = codes "DAY " ++ name
line_of (Team member) = codes "TEAM " ++ member.number ++ 32 ∷ member.team

-- names are those of files, numbers those of pilots, teams those of teams
abbrev pub IsEntry : Entry → Type 0
IsEntry (Day name) = IsUtf8 name × IsTrue (is_file_name name)
IsEntry (Team member) =
    IsTrue (is_number member.number) × IsUtf8 member.team × IsTrue (is_team member.team)

-- a line is that of an entry
pub record IsLineOf (line : List ℕ) (entry : Entry) : Type 0 where
  pub is_entry : IsEntry entry
  pub is : line ≡ line_of entry

-- the days of some entries, and their members of teams, in their order
abbrev pub day_of : Entry → List (List ℕ)
day_of (Day name) = name ∷ []
day_of (Team member) = []

abbrev pub member_of : Entry → List Member
member_of (Day name) = []
member_of (Team member) = member ∷ []

abbrev pub series_of : List Entry → Series
series_of entries =
    record { days = flat_map day_of entries; teams = flat_map member_of entries }

-- at most 30 days, no two of one name; at most 1,000 members, no two of one number
pub record IsSeries (series : Series) : Type 0 where
  pub few_days : length series.days ≤ 30
  pub days_differ : AllPairs (λ one other. one ≢ other) series.days
  pub few_members : length series.teams ≤ 1_000
  pub numbers_differ : AllPairs (λ one other. one.number ≢ other.number) series.teams

-- entries fit together
abbrev pub Fit : List Entry → Type 0
Fit entries = IsSeries (series_of entries)

-- the text is that of a list with these days and members
pub record IsList (text : List ℕ) (series : Series) : Type 0 where
  pub entries : List Entry
  pub rest : List (List ℕ)
  pub lines : lines_of text ≡ heading ∷ rest
  pub reads : Reads IsLineOf Fit rest entries
  pub says : series ≡ series_of entries

-- the first line isn't the heading, or there is none
abbrev pub HasNoHeading : List ℕ → Type 0
HasNoHeading text = (rest : List (List ℕ)) → lines_of text ≢ heading ∷ rest

-- behind the heading, this line is the first that doesn't read
pub record IsWrongAt (text : List ℕ) (number : ℕ) : Type 0 where
  pub rest : List (List ℕ)
  pub count : ℕ
  pub lines : lines_of text ≡ heading ∷ rest
  pub stops : StopsBehind IsLineOf Fit rest count
  pub number_is : number ≡ count + 2

-- what is told of a text that is no list; want of memory can always be told
abbrev pub IsRefused : List ℕ → ListError → Type 0
IsRefused text Heading = HasNoHeading text
IsRefused text (Line number) = IsWrongAt text number
IsRefused text Memory = ⊤
