-- There is one standing of given sheets.
use Rattle.std.proofs.Common.{◌≡◌, ◌≢◌, ◌∙◌, sym, ap, subst, refl, ℕ, zero, suc, ◌<◌, ◌≤◌, List, [], ◌∷◌, ◌++◌, length, map, get_or, arith, ⊎_elim}
use Rattle.std.specs.Prelude.{All, AllPairs, Contains, count_by, sum_by}
use Rattle.std.specs.declared.cmp.Ordering.{Ordering}
use Rattle.std.specs.declared.cmp.Ordering.TheVariants.{Less, Equal, Greater}
use Rattle.std.specs.Ordering.{nat_cmp, ordering_then}
use Rattle.std.proofs.lemmas.Bool.{cases_lt}
use Rattle.std.proofs.lemmas.List.Elements.{All-contains, All-contains_itself, All-head, All-tail, All-weaker, Contains-append_right}
use Rattle.gl_series.specs.declared.day.DayRow.{DayRow}
use Rattle.gl_series.specs.declared.day.DaySheet.{DaySheet}
use Rattle.gl_series.specs.declared.series.Member.{Member}
use Rattle.gl_series.specs.declared.series.Series.{Series}
use Rattle.gl_series.specs.declared.standing.Standing.{Standing}
use Rattle.gl_series.specs.declared.standing.TeamTotal.{TeamTotal}
use Rattle.gl_series.specs.declared.standing.Total.{Total}
use Rattle.gl_series.specs.Choices.{IsTotal, points_on}
use Rattle.gl_text.specs.Forms.{is_text}
use Rattle.gl_series.specs.Totals.{AreDays, ArePilots, AreTeams, IsDay, IsLastName, IsPilot, IsStanding, IsTeam, pilot_cmp, points_for, rank_of, team_cmp}
use Rattle.gl_series.proofs.OneList.{counted_some, from_map, keys_apart, one_list}
use Rattle.gl_series.proofs.Orders.{pilot_cmp_total, team_cmp_total}
use Rattle.gl_series.proofs.Searched.{equal_texts}

second_equal : (first second : Ordering) → ordering_then first second ≡ Equal → second ≡ Equal
second_equal Less second e = absurd (cc)
second_equal Equal second e = e
second_equal Greater second e = absurd (cc)

-- one total, and one name
total_once : (days : List DaySheet) (drop : ℕ) (number : List ℕ) (a b : ℕ) → IsTotal days drop number a → IsTotal days drop number b → a ≡ b
total_once days drop number a b one other =
    ⊎_elim
    (λ (some : drop < length days).
    let first = one.reached some in
    let second = other.reached some in
    omega (arith, first.2, second.2, other.greatest first.0 first.1, one.greatest second.0 second.1))
    (λ (none : length days ≤ drop). one.nothing none ∙ sym (other.nothing none))
    (cases_lt drop (length days))

row_once : (rows : List DayRow) (a b : DayRow) (i j : ℕ) → AllPairs (λ one other. one.number ≢ other.number) rows → i < length rows → get_or rows i a ≡ a → j < length rows → get_or rows j b ≡ b
    → a.number ≡ b.number → a ≡ b
row_once [] a b i j apart first at second by same = absurd (omega (arith, first))
row_once (r ∷ rows) a b zero zero apart first at second by same = sym at ∙ by
row_once (r ∷ rows) a b zero (suc j) apart first at second by same =
    absurd (apart 0 (suc j) b (omega arith) second (ap (λ (x : DayRow). x.number) at ∙ same ∙ ap (λ (x : DayRow). x.number) (sym by)))
row_once (r ∷ rows) a b (suc i) zero apart first at second by same =
    absurd (apart 0 (suc i) a (omega arith) first (ap (λ (x : DayRow). x.number) by ∙ sym same ∙ ap (λ (x : DayRow). x.number) (sym at)))
row_once (r ∷ rows) a b (suc i) (suc j) apart first at second by same =
    row_once rows a b i j (λ m n d below within. apart (suc m) (suc n) d (omega (arith, below)) (omega (arith, within))) (omega (arith, first)) at (omega (arith, second)) by same

abbrev EachDay : List DaySheet → Type 0
EachDay days = All (λ day. IsDay day.rows) days

abbrev Lacks : List ℕ → DaySheet → Type 0
Lacks number day = All (λ other. other.number ≢ number) day.rows

at_last : (number : List ℕ) (front behind : List DaySheet) (last : DaySheet) → All (Lacks number) (front ++ last ∷ behind) → Lacks number last
at_last number [] behind last lack = All-head (Lacks number) last behind lack
at_last number (day ∷ front) behind last lack = at_last number front behind last (All-tail (Lacks number) day (front ++ last ∷ behind) lack)

last_once : (number : List ℕ) (f g b c : List DaySheet) (l m : DaySheet) (r s : DayRow) → EachDay (f ++ l ∷ b) → f ++ l ∷ b ≡ g ++ m ∷ c → Contains l.rows r → Contains m.rows s → r.number ≡ number
    → s.number ≡ number → All (Lacks number) b → All (Lacks number) c → r ≡ s
last_once number [] [] b c l m r s each same has_r has_s is_r is_s lack_b lack_c =
    let first : l ≡ m = cc in
    let differ = (All-head (λ (d : DaySheet). IsDay d.rows) l b each).numbers_differ in
    let there = subst (λ (d : DaySheet). Contains d.rows s) (sym first) has_s in
    row_once l.rows r s has_r.0 there.0 differ has_r.1 has_r.2 there.1 there.2 (is_r ∙ sym is_s)
last_once number [] (d ∷ g) b c l m r s each same has_r has_s is_r is_s lack_b lack_c =
    let rest : b ≡ g ++ m ∷ c = cc in
    let lack = at_last number g c m (subst (All (Lacks number)) rest lack_b) in
    absurd (All-contains (λ (row : DayRow). row.number ≢ number) m.rows s lack has_s is_s)
last_once number (d ∷ f) [] b c l m r s each same has_r has_s is_r is_s lack_b lack_c =
    let rest : c ≡ f ++ l ∷ b = cc in
    let lack = at_last number f b l (subst (All (Lacks number)) rest lack_c) in
    absurd (All-contains (λ (row : DayRow). row.number ≢ number) l.rows r lack has_r is_r)
last_once number (d ∷ f) (e ∷ g) b c l m r s each same has_r has_s is_r is_s lack_b lack_c =
    let rest : f ++ l ∷ b ≡ g ++ m ∷ c = cc in
    last_once number f g b c l m r s (All-tail (λ (x : DaySheet). IsDay x.rows) d (f ++ l ∷ b) each) rest has_r has_s is_r is_s lack_b lack_c

name_once : (days : List DaySheet) (number a b : List ℕ) → EachDay days → IsLastName days number a → IsLastName days number b → a ≡ b
name_once days number a b each one other =
    let row = last_once number one.front other.front one.behind other.behind one.last other.last one.row other.row (subst EachDay one.parts each) (sym one.parts
    ∙ other.parts) one.has other.has one.number_is other.number_is one.no_later other.no_later in
    sym one.name_is ∙ ap (λ (r : DayRow). r.name) row ∙ other.name_is

-- the pilots of given days
module _ (days : List DaySheet) (drop : ℕ) where
  abbrev number_of : Total → List ℕ
  number_of pilot = pilot.number

  abbrev plain : Total → Total
  plain pilot = record pilot { rank = 0 }

  -- a pilot of the days stands once in each standing of them
  stands_once : (some others : List Total) (pilot : Total) → ArePilots days drop some → ArePilots days drop others → Contains some pilot
      → count_by (λ other. is_text pilot.number other.number) others ≡ 1
  stands_once some others pilot first second has =
      let named = (All-contains (IsPilot days drop some) some pilot first.each has).name_is in
      let day_there : Contains days named.last = subst (λ (l : List DaySheet). Contains l named.last) (sym named.parts)
      (Contains-append_right named.front (named.last ∷ named.behind) named.last (0, omega arith, refl)) in
      subst (λ (n : List ℕ). count_by (λ (other : Total). is_text n other.number) others ≡ 1) named.number_is (second.once named.last day_there named.row named.has)

  pub pilots_apart : (pilots : List Total) → ArePilots days drop pilots → AllPairs (λ one other. one.number ≢ other.number) pilots
  pilots_apart pilots are =
      keys_apart number_of pilots (All-weaker (Contains pilots) (λ pilot. count_by (λ other. is_text pilot.number other.number) pilots ≤ 1)
      (λ pilot has. omega (arith, stands_once pilots pilots pilot are are has)) pilots (All-contains_itself pilots))

  twin : (some others : List Total) → EachDay days → ArePilots days drop some → ArePilots days drop others → (pilot : Total) → Contains some pilot
      → (other : Total) × Contains others other × (plain other ≡ plain pilot)
  twin some others each first second pilot has =
      let found = counted_some number_of pilot.number others (omega (arith, stands_once some others pilot first second has)) in
      let other = found.0 in
      let number : pilot.number ≡ other.number = found.2 in
      let one = All-contains (IsPilot days drop some) some pilot first.each has in
      let two = All-contains (IsPilot days drop others) others other second.each found.1 in
      let name : other.name ≡ pilot.name = name_once days other.number other.name pilot.name each two.name_is (subst (λ (n : List ℕ). IsLastName days n pilot.name) number one.name_is) in
      let total : other.total ≡ pilot.total = total_once days drop other.number other.total pilot.total two.total_is (subst (λ (n : List ℕ). IsTotal days drop n pilot.total) number one.total_is) in
      let sums : sum_by (points_on pilot.number) days ≡ sum_by (points_on other.number) days = ap (λ (n : List ℕ). sum_by (points_on n) days) number in
      let dropped : other.dropped ≡ pilot.dropped = omega (arith, one.dropped_is, two.dropped_is, total, sums) in
      let back = sym number in
      (other, found.1, λ i. record { rank = 0; number = back i; name = name i; total = total i; dropped = dropped i })

  plain_totals : (pilots : List Total) → map (λ (p : Total). p.total) (map plain pilots) ≡ map (λ (p : Total). p.total) pilots
  plain_totals [] = refl
  plain_totals (p ∷ pilots) = ap (λ (l : List ℕ). p.total ∷ l) (plain_totals pilots)

  with_ranks : (totals : List ℕ) (xs ys : List Total) → map plain xs ≡ map plain ys → All (λ x. x.rank ≡ rank_of totals x.total) xs → All (λ y. y.rank ≡ rank_of totals y.total) ys → xs ≡ ys
  with_ranks totals [] [] same first second = refl
  with_ranks totals [] (y ∷ ys) same first second = absurd (cc)
  with_ranks totals (x ∷ xs) [] same first second = absurd (cc)
  with_ranks totals (x ∷ xs) (y ∷ ys) same first second =
      let P : Total → Type 0 = λ p. p.rank ≡ rank_of totals p.total in
      let head : plain x ≡ plain y = cc in
      let tail : map plain xs ≡ map plain ys = cc in
      let total : x.total ≡ y.total = ap (λ (p : Total). p.total) head in
      let rank : x.rank ≡ y.rank = All-head P x xs first ∙ ap (rank_of totals) total ∙ sym (All-head P y ys second) in
      let rest = with_ranks totals xs ys tail (All-tail P x xs first) (All-tail P y ys second) in
      λ i. record { rank = rank i; number = (head i).number; name = (head i).name; total = (head i).total; dropped = (head i).dropped } ∷ rest i

  tie : (a b : Total) → pilot_cmp a b ≡ Equal → a.number ≡ b.number
  tie a b equal = equal_texts a.number b.number (second_equal (nat_cmp b.total a.total) _ equal)

  pub one_pilots : (some others : List Total) → EachDay days → ArePilots days drop some → ArePilots days drop others → some ≡ others
  one_pilots some others each first second =
      let same = one_list number_of pilot_cmp pilot_cmp_total tie plain (λ a b. refl) some others first.in_order second.in_order (pilots_apart some first) (pilots_apart others second)
      (twin some others each first second) (twin others some each second first) in
      let totals : map (λ (p : Total). p.total) some ≡ map (λ (p : Total). p.total) others = sym (plain_totals some) ∙ ap (map (λ (p : Total). p.total)) same ∙ plain_totals others in
      with_ranks (map (λ (p : Total). p.total) others) some others same
      (All-weaker (IsPilot days drop some) (λ p. p.rank ≡ rank_of (map (λ (q : Total). q.total) others) p.total) (λ p is. is.rank_is ∙ ap (λ (l : List ℕ). rank_of l p.total) totals) some first.each)
      (All-weaker (IsPilot days drop others) (λ p. p.rank ≡ rank_of (map (λ (q : Total). q.total) others) p.total) (λ p is. is.rank_is) others second.each)

-- the teams of given members and pilots
module _ (members : List Member) (pilots : List Total) where
  abbrev name_of : TeamTotal → List ℕ
  name_of team = team.team

  abbrev plain_team : TeamTotal → TeamTotal
  plain_team team = record team { rank = 0 }

  team_once : (some others : List TeamTotal) (team : TeamTotal) → AreTeams members pilots some → AreTeams members pilots others → Contains some team
      → count_by (λ other. is_text team.team other.team) others ≡ 1
  team_once some others team first second has =
      let named = (All-contains (IsTeam members pilots some) some team first.each has).is_named in
      let member = from_map (λ (m : Member). m.team) members team.team named.0 named.1 named.2 in
      subst (λ (n : List ℕ). count_by (λ (other : TeamTotal). is_text n other.team) others ≡ 1) member.2 (second.once member.0 member.1)

  teams_apart : (teams : List TeamTotal) → AreTeams members pilots teams → AllPairs (λ one other. one.team ≢ other.team) teams
  teams_apart teams are =
      keys_apart name_of teams (All-weaker (Contains teams) (λ team. count_by (λ other. is_text team.team other.team) teams ≤ 1)
      (λ team has. omega (arith, team_once teams teams team are are has)) teams (All-contains_itself teams))

  team_twin : (some others : List TeamTotal) → AreTeams members pilots some → AreTeams members pilots others → (team : TeamTotal) → Contains some team
      → (other : TeamTotal) × Contains others other × (plain_team other ≡ plain_team team)
  team_twin some others first second team has =
      let found = counted_some name_of team.team others (omega (arith, team_once some others team first second has)) in
      let other = found.0 in
      let name : other.team ≡ team.team = sym found.2 in
      let one = All-contains (IsTeam members pilots some) some team first.each has in
      let two = All-contains (IsTeam members pilots others) others other second.each found.1 in
      let total : other.total ≡ team.total = two.total_is ∙ ap (λ (n : List ℕ). sum_by (points_for n pilots) members) name ∙ sym one.total_is in
      (other, found.1, λ i. record { rank = 0; team = name i; total = total i })

  plain_sums : (teams : List TeamTotal) → map (λ (t : TeamTotal). t.total) (map plain_team teams) ≡ map (λ (t : TeamTotal). t.total) teams
  plain_sums [] = refl
  plain_sums (t ∷ teams) = ap (λ (l : List ℕ). t.total ∷ l) (plain_sums teams)

  with_places : (totals : List ℕ) (xs ys : List TeamTotal) → map plain_team xs ≡ map plain_team ys → All (λ x. x.rank ≡ rank_of totals x.total) xs → All (λ y. y.rank ≡ rank_of totals y.total) ys
      → xs ≡ ys
  with_places totals [] [] same first second = refl
  with_places totals [] (y ∷ ys) same first second = absurd (cc)
  with_places totals (x ∷ xs) [] same first second = absurd (cc)
  with_places totals (x ∷ xs) (y ∷ ys) same first second =
      let P : TeamTotal → Type 0 = λ p. p.rank ≡ rank_of totals p.total in
      let head : plain_team x ≡ plain_team y = cc in
      let tail : map plain_team xs ≡ map plain_team ys = cc in
      let total : x.total ≡ y.total = ap (λ (p : TeamTotal). p.total) head in
      let rank : x.rank ≡ y.rank = All-head P x xs first ∙ ap (rank_of totals) total ∙ sym (All-head P y ys second) in
      let rest = with_places totals xs ys tail (All-tail P x xs first) (All-tail P y ys second) in
      λ i. record { rank = rank i; team = (head i).team; total = (head i).total } ∷ rest i

  team_tie : (a b : TeamTotal) → team_cmp a b ≡ Equal → a.team ≡ b.team
  team_tie a b equal = equal_texts a.team b.team (second_equal (nat_cmp b.total a.total) _ equal)

  one_teams : (some others : List TeamTotal) → AreTeams members pilots some → AreTeams members pilots others → some ≡ others
  one_teams some others first second =
      let same = one_list name_of team_cmp team_cmp_total team_tie plain_team (λ a b. refl) some others first.in_order second.in_order (teams_apart some first) (teams_apart others second)
      (team_twin some others first second) (team_twin others some second first) in
      let totals : map (λ (t : TeamTotal). t.total) some ≡ map (λ (t : TeamTotal). t.total) others = sym (plain_sums some) ∙ ap (map (λ (t : TeamTotal). t.total)) same ∙ plain_sums others in
      with_places (map (λ (t : TeamTotal). t.total) others) some others same
      (All-weaker (IsTeam members pilots some) (λ p. p.rank ≡ rank_of (map (λ (q : TeamTotal). q.total) others) p.total) (λ p is. is.rank_is
      ∙ ap (λ (l : List ℕ). rank_of l p.total) totals) some first.each)
      (All-weaker (IsTeam members pilots others) (λ p. p.rank ≡ rank_of (map (λ (q : TeamTotal). q.total) others) p.total) (λ p is. is.rank_is) others second.each)

pub standing_once : (series : Series) (days : List DaySheet) (drop : ℕ) (one other : Standing) → AreDays days → IsStanding series days drop one → IsStanding series days drop other → one ≡ other
standing_once series days drop one other are first second =
    let pilots = one_pilots days drop one.pilots other.pilots are.each first.pilots second.pilots in
    let moved = subst (λ (l : List Total). AreTeams series.teams l one.teams) pilots first.teams in
    let teams = one_teams series.teams other.pilots one.teams other.teams moved second.teams in
    λ i. record { pilots = pilots i; teams = teams i }
