-- The standing of a championship's pilots and of its teams.
use Rattle.std.specs.Prelude.{◌≡◌, ◌≢◌, ℕ, ◌+◌, ◌≤◌, nat_lt, if◌then◌else◌, List, [], ◌∷◌, ◌++◌, length, map, count_by, sum_by, All, AllPairs, Contains}
use Rattle.std.specs.declared.cmp.Ordering.{Ordering}
use Rattle.std.specs.Cmp.Lexicographic.{slice_cmp}
use Rattle.std.specs.List.Sorted.{IsSorted}
use Rattle.std.specs.Ordering.{nat_cmp, ordering_then}
use Rattle.gl_series.specs.declared.day.DayRow.{DayRow}
use Rattle.gl_series.specs.declared.day.DaySheet.{DaySheet}
use Rattle.gl_series.specs.declared.series.Member.{Member}
use Rattle.gl_series.specs.declared.series.Series.{Series}
use Rattle.gl_series.specs.declared.standing.Standing.{Standing}
use Rattle.gl_series.specs.declared.standing.TeamTotal.{TeamTotal}
use Rattle.gl_series.specs.declared.standing.Total.{Total}
use Rattle.gl_series.specs.Choices.{IsTotal, points_on}
use Rattle.gl_text.specs.Forms.{is_text}

-- at most 200 rows, no two of one number, with at most 1,000 points each
pub record IsDay (rows : List DayRow) : Type 0 where
  pub few : length rows ≤ 200
  pub numbers_differ : AllPairs (λ one other. one.number ≢ other.number) rows
  pub points : All (λ row. row.points ≤ 1_000) rows

-- at most 30 such days
pub record AreDays (days : List DaySheet) : Type 0 where
  pub few : length days ≤ 30
  pub each : All (λ day. IsDay day.rows) days

-- the name beside a number on the last day that has the number
pub record IsLastName (days : List DaySheet) (number name : List ℕ) : Type 0 where
  pub front : List DaySheet
  pub last : DaySheet
  pub behind : List DaySheet
  pub row : DayRow
  pub parts : days ≡ front ++ last ∷ behind
  pub has : Contains last.rows row
  pub number_is : row.number ≡ number
  pub name_is : row.name ≡ name
  pub no_later : All (λ day. All (λ other. other.number ≢ number) day.rows) behind

-- the rank beside a total: one more than the number of greater ones
abbrev pub rank_of : List ℕ → ℕ → ℕ
rank_of totals total = count_by (λ other. nat_lt total other) totals + 1

-- how two pilots stand: by total, the greater first, and at equal totals by the bytes of the number
abbrev pub pilot_cmp : Total → Total → Ordering
pilot_cmp a b = ordering_then (nat_cmp b.total a.total) (slice_cmp nat_cmp a.number b.number)

-- what stands beside a pilot's number
pub record IsPilot (days : List DaySheet) (drop : ℕ) (pilots : List Total)
    (pilot : Total) : Type 0 where
  pub name_is : IsLastName days pilot.number pilot.name
  pub total_is : IsTotal days drop pilot.number pilot.total
  pub dropped_is : pilot.dropped + pilot.total ≡ sum_by (points_on pilot.number) days
  pub rank_is : pilot.rank ≡ rank_of (map (λ other. other.total) pilots) pilot.total

-- each number of each day's sheet stands once among the pilots, and no other stands there
pub record ArePilots (days : List DaySheet) (drop : ℕ) (pilots : List Total) : Type 0 where
  pub each : All (IsPilot days drop pilots) pilots
  pub once : (day : DaySheet) → Contains days day → (row : DayRow) → Contains day.rows row
      → count_by (λ pilot. is_text row.number pilot.number) pilots ≡ 1
  pub in_order : IsSorted pilot_cmp pilots

-- the total beside a number, 0 where no pilot has it
abbrev pub total_beside : List ℕ → List Total → ℕ
total_beside number [] = 0
total_beside number (pilot ∷ pilots) =
    if is_text number pilot.number then pilot.total else total_beside number pilots

-- how two teams stand: by total, the greater first, and at equal totals by the bytes of the name
abbrev pub team_cmp : TeamTotal → TeamTotal → Ordering
team_cmp a b = ordering_then (nat_cmp b.total a.total) (slice_cmp nat_cmp a.team b.team)

-- what a member's total adds to a team: nothing where the member flies for another one
abbrev pub points_for : List ℕ → List Total → Member → ℕ
points_for team pilots member =
    if is_text team member.team then total_beside member.number pilots else 0

-- what stands beside a team's name
pub record IsTeam (members : List Member) (pilots : List Total) (teams : List TeamTotal)
    (team : TeamTotal) : Type 0 where
  pub is_named : Contains (map (λ member. member.team) members) team.team
  pub total_is : team.total ≡ sum_by (points_for team.team pilots) members
  pub rank_is : team.rank ≡ rank_of (map (λ other. other.total) teams) team.total

-- the team of each member stands once among the teams, and no other stands there
pub record AreTeams (members : List Member) (pilots : List Total)
    (teams : List TeamTotal) : Type 0 where
  pub each : All (IsTeam members pilots teams) teams
  pub once : (member : Member) → Contains members member
      → count_by (λ team. is_text member.team team.team) teams ≡ 1
  pub in_order : IsSorted team_cmp teams

-- the standing after some days, of which so many are left out for each pilot
pub record IsStanding (series : Series) (days : List DaySheet) (drop : ℕ)
    (standing : Standing) : Type 0 where
  pub pilots : ArePilots days drop standing.pilots
  pub teams : AreTeams series.teams standing.pilots standing.teams
