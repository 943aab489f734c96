-- What the program keeps while it adds up.
use Rattle.std.specs.Prelude.{◌≡◌, ◌≢◌, ℕ, ◌+◌, ◌≤◌, if◌then◌else◌, List, [], ◌∷◌, ◌++◌, Bool, false, cond, not, length, map, filter, sum_by, All, AllPairs}
use Rattle.std.specs.declared.cmp.Ordering.{Ordering}
use Rattle.std.specs.Cmp.Lexicographic.{slice_cmp}
use Rattle.std.specs.List.{list_any}
use Rattle.std.specs.List.Sorted.{IsNonDecreasingBy, IsPermutation, IsSorted}
use Rattle.std.specs.Ordering.{nat_cmp}
use Rattle.gl_series.specs.declared.day.DayRow.{DayRow}
use Rattle.gl_series.specs.declared.day.DaySheet.{DaySheet}
use Rattle.gl_series.specs.declared.numbered.Numbered.{Numbered}
use Rattle.gl_series.specs.declared.ordered.Ordered.{Ordered}
use Rattle.gl_series.specs.declared.pilots.Tally.{Tally}
use Rattle.gl_series.specs.declared.scored.Scored.{Scored}
use Rattle.gl_series.specs.declared.series.Member.{Member}
use Rattle.gl_series.specs.declared.shares.Share.{Share}
use Rattle.gl_series.specs.declared.standing.TeamTotal.{TeamTotal}
use Rattle.gl_series.specs.declared.standing.Total.{Total}
use Rattle.gl_series.specs.declared.teams.TeamSum.{TeamSum}
use Rattle.gl_series.specs.Choices.{IsTotal, points_on}
use Rattle.gl_text.specs.Forms.{is_text}
use Rattle.gl_series.specs.Totals.{IsDay, pilot_cmp, rank_of, team_cmp, total_beside}

-- how two texts stand: by their bytes
abbrev pub text_cmp : List ℕ → List ℕ → Ordering
text_cmp one other = slice_cmp nat_cmp one other

-- a number stands in some rows, or in one of some days
abbrev pub has_number : List ℕ → List DayRow → Bool
has_number number rows = list_any (λ row. is_text number row.number) rows

abbrev pub is_in_days : List ℕ → List DaySheet → Bool
is_in_days number days = list_any (λ day. has_number number day.rows) days

-- the rows of a day, which are also there in the order of their numbers
pub record IsOrdered (ordered : Ordered) : Type 0 where
  pub day : IsDay ordered.day.now.rows
  pub rows_are : IsPermutation ordered.day.now.rows (map (λ row. row.now) ordered.rows.items)
  pub in_order : IsSorted (λ one other. text_cmp one.now.number other.now.number) ordered.rows.items

abbrev pub days_of : List Ordered → List DaySheet
days_of ordered = map (λ one. one.day.now) ordered

-- so of some days
pub record AreOrdered (days : List DaySheet) (ordered : List Ordered) : Type 0 where
  pub days_are : days_of ordered ≡ days
  pub each : All IsOrdered ordered

-- the rows whose numbers no later day has, by days
abbrev pub last_rows : List DaySheet → List DayRow
last_rows [] = []
last_rows (day ∷ days) =
    filter (λ row. not (is_in_days row.number days)) day.rows ++ last_rows days

-- days with a pilot's points
pub record AreScored (number : List ℕ) (days : List DaySheet) (scored : List Scored) : Type 0 where
  pub days_are : map (λ one. one.day.now) scored ≡ days
  pub points_are : All (λ one. one.points ≡ points_on number one.day.now) scored
  pub low : All (λ one. one.points ≤ 1_000) scored

-- days with a pilot's points, in the order of the points
pub record AreInOrder (number : List ℕ) (days : List DaySheet) (scored : List Scored) : Type 0 where
  pub days_are : IsPermutation days (map (λ one. one.day.now) scored)
  pub points_are : All (λ one. one.points ≡ points_on number one.day.now) scored
  pub low : All (λ one. one.points ≤ 1_000) scored
  pub rising : IsNonDecreasingBy (λ one. one.points) scored

-- the total of a pilot, and the points that were left out
pub record IsTally (days : List DaySheet) (drop : ℕ) (number : List ℕ)
    (total dropped : ℕ) : Type 0 where
  pub total_is : IsTotal days drop number total
  pub dropped_is : dropped + total ≡ sum_by (points_on number) days

-- the tallies of the pilots of some rows
pub record AreTotals (days : List DaySheet) (rows : List DayRow) (drop : ℕ)
    (tallies : List Tally) : Type 0 where
  pub rows_are : map (λ tally. tally.row.now) tallies ≡ rows
  pub low : All (λ tally. tally.total ≤ 30_000) tallies
  pub each : All (λ tally. IsTally days drop tally.row.now.number tally.total tally.dropped) tallies

-- the tallies of all pilots
pub record AreTallies (days : List DaySheet) (drop : ℕ) (tallies : List Tally) : Type 0 where
  pub totals : AreTotals days (last_rows days) drop tallies
  pub few : length tallies ≤ 6_000

abbrev pub total_of_tally : Tally → ℕ
total_of_tally tally = tally.total

-- a pilot among all totals
abbrev pub pilot_of : List ℕ → Tally → Total
pilot_of totals tally = record {
  rank = rank_of totals tally.total;
  number = tally.row.now.number;
  name = tally.row.now.name;
  total = tally.total;
  dropped = tally.dropped;
}

-- the pilots of some tallies, in their order
pub record AreRanked (tallies : List Tally) (pilots : List Total) : Type 0 where
  pub totals : List ℕ
  pub totals_are : IsPermutation (map total_of_tally tallies) totals
  pub pilots_are : IsPermutation (map (pilot_of totals) tallies) pilots
  pub in_order : IsSorted pilot_cmp pilots

-- pilots of different numbers, who are also there in the order of the numbers
pub record IsNumbered (numbered : Numbered) : Type 0 where
  pub apart : AllPairs (λ one other. one.number ≢ other.number) numbered.pilots.now
  pub low : All (λ pilot. pilot.total ≤ 30_000) numbered.pilots.now
  pub pilots_are : IsPermutation numbered.pilots.now (map (λ one. one.now) numbered.in_order.items)
  pub in_order :
      IsSorted (λ one other. text_cmp one.now.number other.now.number) numbered.in_order.items

-- what members add, in the order of the members
pub record AreSharesOf (members : List Member) (pilots : List Total)
    (shares : List Share) : Type 0 where
  pub members_are : map (λ share. share.member.now) shares ≡ members
  pub points_are : All (λ share. share.points ≡ total_beside share.member.now.number pilots) shares
  pub low : All (λ share. share.points ≤ 30_000) shares

-- what members add, in the order of the teams
abbrev pub share_cmp : Share → Share → Ordering
share_cmp one other = text_cmp one.member.now.team other.member.now.team

pub record AreShares (members : List Member) (pilots : List Total)
    (shares : List Share) : Type 0 where
  pub members_are : IsPermutation members (map (λ share. share.member.now) shares)
  pub points_are : All (λ share. share.points ≡ total_beside share.member.now.number pilots) shares
  pub low : All (λ share. share.points ≤ 30_000) shares
  pub in_order : IsSorted share_cmp shares

-- the first of some members flies for a team
abbrev pub starts_with_team : List ℕ → List Share → Bool
starts_with_team team [] = false
starts_with_team team (share ∷ shares) = is_text team share.member.now.team

-- one of some members flies for a team
abbrev pub has_team : List ℕ → List Member → Bool
has_team team members = list_any (λ member. is_text team member.team) members

-- the members for whose teams no later one flies
abbrev pub last_members : List Member → List Member
last_members [] = []
last_members (member ∷ members) =
    cond (has_team member.team members) [] (member ∷ []) ++ last_members members

-- what a member adds to a team
abbrev pub share_for : List ℕ → Share → ℕ
share_for team share = if is_text team share.member.now.team then share.points else 0

-- the sums of all teams
pub record AreTeamSums (shares : List Share) (sums : List TeamSum) : Type 0 where
  pub members_are : map (λ sum. sum.member.now) sums
      ≡ last_members (map (λ share. share.member.now) shares)
  pub each : All (λ sum. sum.total ≡ sum_by (share_for sum.member.now.team) shares) sums

abbrev pub total_of_sum : TeamSum → ℕ
total_of_sum sum = sum.total

-- a team among all totals
abbrev pub team_of : List ℕ → TeamSum → TeamTotal
team_of totals sum = record {
  rank = rank_of totals sum.total;
  team = sum.member.now.team;
  total = sum.total;
}

-- the teams of some sums, in their order
pub record AreRankedTeams (sums : List TeamSum) (teams : List TeamTotal) : Type 0 where
  pub totals : List ℕ
  pub totals_are : IsPermutation (map total_of_sum sums) totals
  pub teams_are : IsPermutation (map (team_of totals) sums) teams
  pub in_order : IsSorted team_cmp teams
