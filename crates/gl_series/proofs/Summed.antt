-- The teams of some members, from what the members add.
use Rattle.std.proofs.Common.{◌≡◌, ◌≢◌, ◌∙◌, sym, ap, subst, refl, ℕ, ◌+◌, ◌*◌, ◌<◌, ◌≤◌, Bool, true, false, ◌||◌, List, [], ◌∷◌, ◌++◌, length, map, get_or, take, drop, append_assoc, arith, ⊎_elim}
use Rattle.std.specs.Prelude.{All, AllPairs, Contains, MatchBool, cond, count_by, if◌then◌else◌, sum_by}
use Rattle.std.specs.List.Sorted.{IsPermutation, IsSorted}
use Rattle.std.specs.Ordering.{is_lt}
use Rattle.std.proofs.lemmas.Bool.{cases_Bool, false≢true}
use Rattle.std.proofs.lemmas.List.{drop_more, get_or-map, length-append, length-map, map_push, take_more}
use Rattle.std.proofs.lemmas.List.Elements.{All-cons, All-head, All-map, All-nil, All-push, All-tail, All-weaker}
use Rattle.std.proofs.lemmas.List.Sorted.{All-permutation, Contains-permutation, length_permutation, IsPermutation-map, IsPermutation-sym, IsPermutation-trans, sum_by-IsPermutation}
use Rattle.std.proofs.lemmas.List.Sums.{sum_by-append, sum_by-cons}
use Rattle.gl_series.specs.declared.series.Member.{Member}
use Rattle.gl_series.specs.declared.shares.Share.{Share}
use Rattle.gl_series.specs.declared.standing.TeamTotal.{TeamTotal}
use Rattle.gl_series.specs.declared.standing.Total.{Total}
use Rattle.gl_series.specs.declared.teams.TeamSum.{TeamSum}
use Rattle.gl_text.specs.Forms.{is_text}
use Rattle.gl_series.specs.Code.Tallies.{AreRankedTeams, AreShares, AreSharesOf, AreTeamSums, has_team, last_members, share_cmp, share_for, starts_with_team, team_of, text_cmp, total_of_sum}
use Rattle.gl_series.specs.Totals.{AreTeams, IsTeam, points_for, total_beside}
use Rattle.gl_series.proofs.Beside.{text_apart, text_is, text_not, text_same}
use Rattle.gl_series.proofs.Growing.{pairs_head, pairs_tail}
use Rattle.gl_series.proofs.LastMembers.{last_are_members, last_fewer, team_counted, team_found}
use Rattle.gl_series.proofs.Searched.{sorted_pairs, tied_texts}
use Rattle.gl_series.proofs.Tallied.{all_both, all_unmap, counted_map, ranks_same}

abbrev total_of : TeamTotal → ℕ
total_of team = team.total

abbrev member_of : TeamSum → Member
member_of sum = sum.member.now

abbrev flyer_of : Share → Member
flyer_of share = share.member.now

abbrev team_name : Share → List ℕ
team_name share = share.member.now.team

-- what stands in order stands in pairs, none of which is turned
abbrev Rising : Share → Share → Type 0
Rising one other = is_lt (share_cmp other one) ≡ false

-- members of other teams add nothing to a team, and none of them flies for it
nothing_for : (team : List ℕ) (shares : List Share) → All (λ share. team_name share ≢ team) shares → sum_by (share_for team) shares ≡ 0
nothing_for team [] apart = refl
nothing_for team (share ∷ shares) apart =
    let P : Share → Type 0 = λ one. team_name one ≢ team in
    let other : is_text team (team_name share) ≡ false = text_not team (team_name share) (λ same. All-head P share shares apart (sym same)) in
    let none : share_for team share ≡ 0 = ap (λ (b : Bool). if b then share.points else 0) other in
    omega (arith, none, sum_by-cons (share_for team) share shares, nothing_for team shares (All-tail P share shares apart))

none_flies : (team : List ℕ) (shares : List Share) → All (λ share. team_name share ≢ team) shares → has_team team (map flyer_of shares) ≡ false
none_flies team [] apart = refl
none_flies team (share ∷ shares) apart =
    let P : Share → Type 0 = λ one. team_name one ≢ team in
    let other : is_text team (team_name share) ≡ false = text_not team (team_name share) (λ same. All-head P share shares apart (sym same)) in
    ap (λ (b : Bool). b || has_team team (map flyer_of shares)) other ∙ none_flies team shares (All-tail P share shares apart)

-- the sums so far are those of the teams whose last members are so far
pub record SumsUpTo (shares front rest : List Share) (sums : List TeamSum) (total : ℕ) : Type 0 where
  pub parts : front ++ rest ≡ shares
  pub members_are : map member_of sums ++ last_members (map flyer_of rest) ≡ last_members (map flyer_of shares)
  pub each : All (λ sum. sum.total ≡ sum_by (share_for sum.member.now.team) shares) sums
  pub running : (share : Share) (later : List Share) → rest ≡ share ∷ later → total ≡ sum_by (share_for (team_name share)) front
  pub low : total ≤ length front * 30_000

-- of a rising list, the members before a place and at it, and those behind it
front_pairs : (front : List Share) (share : Share) (later : List Share) → AllPairs Rising (front ++ share ∷ later) → All (λ one. Rising one share) front
front_pairs [] share later rising = All-nil (λ one. Rising one share)
front_pairs (one ∷ front) share later rising =
    All-cons (λ other. Rising other share) one front
    (all_at front share later (pairs_head Rising one (front ++ share ∷ later) rising))
    (front_pairs front share later (pairs_tail Rising one (front ++ share ∷ later) rising))
  where
    all_at : (before : List Share) (here : Share) (behind : List Share) → All (Rising one) (before ++ here ∷ behind) → Rising one here
    all_at [] here behind all = All-head (Rising one) here behind all
    all_at (x ∷ before) here behind all = all_at before here behind (All-tail (Rising one) x (before ++ here ∷ behind) all)

back_pairs : (front : List Share) (share : Share) (later : List Share) → AllPairs Rising (front ++ share ∷ later) → AllPairs Rising (share ∷ later)
back_pairs [] share later rising = rising
back_pairs (one ∷ front) share later rising = back_pairs front share later (pairs_tail Rising one (front ++ share ∷ later) rising)

-- where the next member flies for another team, so do all behind, and no earlier one flies for that team
later_apart : (share next : Share) (later : List Share) → AllPairs Rising (share ∷ next ∷ later) → team_name share ≢ team_name next → All (λ one. team_name one ≢ team_name share) (next ∷ later)
later_apart share next later rising apart =
    let ahead = All-head (Rising share) next later (pairs_head Rising share (next ∷ later) rising) in
    let behind = pairs_head Rising next later (pairs_tail Rising share (next ∷ later) rising) in
    All-cons (λ one. team_name one ≢ team_name share) next later (λ same. apart (sym same))
    (All-weaker (Rising next) (λ one. team_name one ≢ team_name share) (λ one over same.
    let turned : is_lt (text_cmp (team_name share) (team_name next)) ≡ false = subst (λ (t : List ℕ). is_lt (text_cmp t (team_name next)) ≡ false) same over in
    apart (tied_texts (team_name share) (team_name next) turned ahead)) later behind)

front_apart : (front : List Share) (share next : Share) (later : List Share) → AllPairs Rising (front ++ share ∷ next ∷ later) → team_name share ≢ team_name next
    → All (λ one. team_name one ≢ team_name next) (front ++ share ∷ [])
front_apart front share next later rising apart =
    let ahead = All-head (Rising share) next later (pairs_head Rising share (next ∷ later) (back_pairs front share (next ∷ later) rising)) in
    All-push (λ one. team_name one ≢ team_name next) front share
    (All-weaker (λ one. Rising one share) (λ one. team_name one ≢ team_name next) (λ one over same.
    let turned : is_lt (text_cmp (team_name share) (team_name next)) ≡ false = subst (λ (t : List ℕ). is_lt (text_cmp (team_name share) t) ≡ false) same over in
    apart (tied_texts (team_name share) (team_name next) turned ahead)) front (front_pairs front share (next ∷ later) rising))
    apart

behind_apart : (shares front behind : List Share) (share : Share) → AllPairs Rising shares → front ++ share ∷ behind ≡ shares → starts_with_team (team_name share) behind ≡ false
    → All (λ one. team_name one ≢ team_name share) behind
behind_apart shares front [] share rising parts ends = All-nil (λ one. team_name one ≢ team_name share)
behind_apart shares front (n ∷ b) share rising parts ends =
    later_apart share n b (back_pairs front share (n ∷ b) (subst (AllPairs Rising) (sym parts) rising)) (text_apart (team_name share) (team_name n) ends)

before_apart : (shares front behind : List Share) (share other : Share) (after : List Share) → AllPairs Rising shares → front ++ share ∷ behind ≡ shares
    → starts_with_team (team_name share) behind ≡ false → behind ≡ other ∷ after → All (λ one. team_name one ≢ team_name other) (front ++ share ∷ [])
before_apart shares front [] share other after rising parts ends here = absurd (cc)
before_apart shares front (n ∷ b) share other after rising parts ends here =
    let first : n ≡ other = cc in
    subst (λ (m : Share). All (λ one. team_name one ≢ team_name m) (front ++ share ∷ [])) first
    (front_apart front share n b (subst (AllPairs Rising) (sym parts) rising) (text_apart (team_name share) (team_name n) ends))

-- one member more
pub sums_further : (shares front later : List Share) (share : Share) (sums more : List TeamSum) (sum : TeamSum) (total begun : ℕ) → AllPairs Rising shares → share.points ≤ 30_000
    → SumsUpTo shares front (share ∷ later) sums total → sum.member.now ≡ flyer_of share → sum.total ≡ total + share.points
    → MatchBool (starts_with_team (team_name share) later) ((begun ≡ total + share.points) × (more ≡ sums)) ((begun ≡ 0) × (more ≡ sums ++ sum ∷ []))
    → SumsUpTo shares (front ++ share ∷ []) later more begun
sums_further shares front later share sums more sum total begun rising low far who much next =
    ⊎_elim
    (λ (goes : starts_with_team (team_name share) later ≡ true).
    let on = subst (λ (b : Bool). MatchBool b ((begun ≡ total + share.points) × (more ≡ sums)) ((begun ≡ 0) × (more ≡ sums ++ sum ∷ []))) goes next in
    goes_on later far goes on.0 on.1)
    (λ (ends : starts_with_team (team_name share) later ≡ false).
    let on = subst (λ (b : Bool). MatchBool b ((begun ≡ total + share.points) × (more ≡ sums)) ((begun ≡ 0) × (more ≡ sums ++ sum ∷ []))) ends next in
    ends_here later far ends on.0 on.1)
    (cases_Bool (starts_with_team (team_name share) later))
  where
    worth_here : share_for (team_name share) share ≡ share.points
    worth_here = ap (λ (b : Bool). if b then share.points else 0) (text_is (team_name share) (team_name share) refl)

    summed : (behind : List Share) → SumsUpTo shares front (share ∷ behind) sums total → total + share.points ≡ sum_by (share_for (team_name share)) (front ++ share ∷ [])
    summed behind so = omega (arith, so.running share behind refl, sum_by-append (share_for (team_name share)) front (share ∷ []), sum_by-cons (share_for (team_name share)) share [], worth_here)

    whole : (behind : List Share) → SumsUpTo shares front (share ∷ behind) sums total → (front ++ share ∷ []) ++ behind ≡ shares
    whole behind so = append_assoc front (share ∷ []) behind ∙ so.parts

    higher : total ≤ length front * 30_000 → total + share.points ≤ length (front ++ share ∷ []) * 30_000
    higher few = omega (arith, few, low, length-append front (share ∷ []))

    goes_on : (behind : List Share) → SumsUpTo shares front (share ∷ behind) sums total → starts_with_team (team_name share) behind ≡ true → begun ≡ total + share.points → more ≡ sums
        → SumsUpTo shares (front ++ share ∷ []) behind more begun
    goes_on [] so goes is same = absurd (false≢true goes)
    goes_on (n ∷ behind) so goes is same =
        let found : has_team (team_name share) (map flyer_of (n ∷ behind)) ≡ true = ap (λ (b : Bool). b || has_team (team_name share) (map flyer_of behind)) goes in
        let skipped : last_members (map flyer_of (share ∷ n ∷ behind)) ≡ last_members (map flyer_of (n ∷ behind)) =
        ap (λ (b : Bool). cond b [] (flyer_of share ∷ []) ++ last_members (map flyer_of (n ∷ behind))) found in
        let one_team = text_same (team_name share) (team_name n) goes in
        record {
          parts = whole (n ∷ behind) so;
          members_are = ap (λ (l : List TeamSum). map member_of l ++ last_members (map flyer_of (n ∷ behind))) same ∙ ap (λ (l : List Member). map member_of sums ++ l) (sym skipped) ∙ so.members_are;
          each = subst (All (λ one. one.total ≡ sum_by (share_for one.member.now.team) shares)) (sym same) so.each;
          running = λ other after here.
              let first : n ≡ other = cc in
              is ∙ summed (n ∷ behind) so ∙ ap (λ (t : List ℕ). sum_by (share_for t) (front ++ share ∷ [])) (one_team ∙ ap team_name first);
          low = omega (arith, is, higher so.low);
        }

    ends_here : (behind : List Share) → SumsUpTo shares front (share ∷ behind) sums total → starts_with_team (team_name share) behind ≡ false → begun ≡ 0 → more ≡ sums ++ sum ∷ []
        → SumsUpTo shares (front ++ share ∷ []) behind more begun
    ends_here behind so ends is grown =
        let apart = behind_apart shares front behind share rising so.parts ends in
        let lacks = none_flies (team_name share) behind apart in
        let kept : last_members (map flyer_of (share ∷ behind)) ≡ flyer_of share ∷ last_members (map flyer_of behind) =
        ap (λ (b : Bool). cond b [] (flyer_of share ∷ []) ++ last_members (map flyer_of behind)) lacks in
        let named : map member_of more ≡ map member_of sums ++ flyer_of share ∷ [] = ap (map member_of) grown ∙ map_push member_of sums sum ∙ ap (λ (m : Member). map member_of sums ++ m ∷ []) who in
        let all : sum_by (share_for (team_name share)) shares ≡ total + share.points =
        omega (
          arith,
          ap (sum_by (share_for (team_name share))) (sym (whole behind so)),
          sum_by-append (share_for (team_name share)) (front ++ share ∷ []) behind,
          summed behind so,
          nothing_for (team_name share) behind apart,
        ) in
        let P : TeamSum → Type 0 = λ one. one.total ≡ sum_by (share_for one.member.now.team) shares in
        record {
          parts = whole behind so;
          members_are = ap (λ (l : List Member). l ++ last_members (map flyer_of behind)) named ∙ append_assoc (map member_of sums) (flyer_of share ∷ []) (last_members (map flyer_of behind))
              ∙ ap (λ (l : List Member). map member_of sums ++ l) (sym kept) ∙ so.members_are;
          each = subst (All P) (sym grown) (All-push P sums sum so.each (much ∙ sym all ∙ ap (λ (m : Member). sum_by (share_for m.team) shares) (sym who)));
          running = λ other after here. is ∙ sym (nothing_for (team_name other) (front ++ share ∷ []) (before_apart shares front behind share other after rising so.parts ends here));
          low = omega (arith, is);
        }

-- the same at a place of the list
pub sums_at : (shares : List Share) (place : ℕ) (share : Share) (sums more : List TeamSum) (sum : TeamSum) (total begun : ℕ) → IsSorted share_cmp shares → All (λ one. one.points ≤ 30_000) shares
    → SumsUpTo shares (take place shares) (drop place shares) sums total → place < length shares → share ≡ get_or shares place share → sum.member.now ≡ flyer_of share
    → sum.total ≡ total + share.points → MatchBool (starts_with_team (team_name share) (drop (place + 1) shares)) ((begun ≡ total + share.points) × (more ≡ sums))
    ((begun ≡ 0) × (more ≡ sums ++ sum ∷ [])) → SumsUpTo shares (take (place + 1) shares) (drop (place + 1) shares) more begun
sums_at shares place share sums more sum total begun sorted low far inside at who much next =
    let later = drop (place + 1) shares in
    let here : drop place shares ≡ share ∷ later = drop_more shares place share inside ∙ ap (λ (s : Share). s ∷ later) (sym at) in
    let front : take (place + 1) shares ≡ take place shares ++ share ∷ [] = take_more shares place share inside ∙ ap (λ (s : Share). take place shares ++ s ∷ []) (sym at) in
    let few : share.points ≤ 30_000 = subst (λ (s : Share). s.points ≤ 30_000) (sym at) (low place share inside) in
    let so_far : SumsUpTo shares (take place shares) (share ∷ later) sums total = subst (λ (l : List Share). SumsUpTo shares (take place shares) l sums total) here far in
    subst (λ (l : List Share). SumsUpTo shares l later more begun) (sym front)
    (sums_further shares (take place shares) later share sums more sum total begun (sorted_pairs team_name shares sorted) few so_far who much next)

-- what members add, in order
pub shares_in_order : (members : List Member) (pilots : List Total) (unsorted sorted : List Share) → AreSharesOf members pilots unsorted → IsPermutation unsorted sorted → IsSorted share_cmp sorted
    → AreShares members pilots sorted
shares_in_order members pilots unsorted sorted are moved rising = record {
  members_are = subst (λ (l : List Member). IsPermutation l (map flyer_of sorted)) are.members_are (IsPermutation-map flyer_of unsorted sorted moved);
  points_are = All-permutation (λ share. share.points ≡ total_beside share.member.now.number pilots) unsorted sorted moved are.points_are;
  low = All-permutation (λ share. share.points ≤ 30_000) unsorted sorted moved are.low;
  in_order = rising;
}

pub shares_few : (members : List Member) (pilots : List Total) (shares : List Share) → AreShares members pilots shares → length members ≤ 1_000 → length shares ≤ 1_000
shares_few members pilots shares are few =
    omega (arith, few, length_permutation members (map flyer_of shares) are.members_are, length-map shares flyer_of)

pub sums_few : (shares : List Share) (sums : List TeamSum) → AreTeamSums shares sums → length shares ≤ 1_000 → length sums ≤ 1_000
sums_few shares sums are few =
    omega (arith, few, last_fewer (map flyer_of shares), ap length are.members_are, length-map sums member_of, length-map shares flyer_of)

shares_summed : (team : List ℕ) (pilots : List Total) (shares : List Share) → All (λ share. share.points ≡ total_beside share.member.now.number pilots) shares
    → sum_by (share_for team) shares ≡ sum_by (points_for team pilots) (map flyer_of shares)
shares_summed team pilots [] are = refl
shares_summed team pilots (share ∷ shares) are =
    let P : Share → Type 0 = λ one. one.points ≡ total_beside one.member.now.number pilots in
    let here : share_for team share ≡ points_for team pilots (flyer_of share) = ap (λ (n : ℕ). if is_text team (team_name share) then n else 0) (All-head P share shares are) in
    omega (
      arith,
      here,
      sum_by-cons (share_for team) share shares,
      sum_by-cons (points_for team pilots) (flyer_of share) (map flyer_of shares),
      shares_summed team pilots shares (All-tail P share shares are),
    )

totals_same : (totals : List ℕ) (sums : List TeamSum) → map total_of (map (team_of totals) sums) ≡ map total_of_sum sums
totals_same totals [] = refl
totals_same totals (sum ∷ sums) = ap (λ (l : List ℕ). sum.total ∷ l) (totals_same totals sums)

named : (members : List Member) (member : Member) → Contains members member → Contains (map (λ m. m.team) members) member.team
named members member has =
    (has.0, omega (arith, has.1, length-map members (λ m. m.team)), get_or-map (λ (m : Member). m.team) members has.0 member member.team has.1 ∙ ap (λ (m : Member). m.team) has.2)

pub teams_of : (members : List Member) (pilots : List Total) (shares : List Share) (sums : List TeamSum) (teams : List TeamTotal) → AreShares members pilots shares → AreTeamSums shares sums
    → AreRankedTeams sums teams → AreTeams members pilots teams
teams_of members pilots shares sums qs shared summed ranked =
    let ps = map (team_of ranked.totals) sums in
    let flyers = map flyer_of shares in
    record {
      each = All-permutation (IsTeam members pilots qs) ps qs ranked.teams_are (All-map (IsTeam members pilots qs) (team_of ranked.totals) sums each_one);
      once = λ member has.
          let team = member.team in
          let there = Contains-permutation members flyers member shared.members_are has in
          let moved_count = sum_by-IsPermutation (λ other. cond (is_text team other.team) 1 0) ps qs ranked.teams_are in
          let made_count = counted_map (team_of ranked.totals) (λ other. is_text team other.team) sums in
          let last_count : count_by (λ other. is_text team other.team) (last_members flyers) ≡ count_by (λ sum. is_text team sum.member.now.team) sums =
          ap (count_by (λ other. is_text team other.team)) (sym summed.members_are) ∙ counted_map member_of (λ other. is_text team other.team) sums in
          let one = team_counted team flyers ∙ ap (λ (b : Bool). cond b 1 0) (team_found flyers member there) in
          moved_count ∙ made_count ∙ sym last_count ∙ one;
      in_order = ranked.in_order;
    }
  where
    back : IsPermutation (map flyer_of shares) members
    back = IsPermutation-sym members (map flyer_of shares) shared.members_are

    each_named : All (λ sum. Contains members sum.member.now) sums
    each_named = all_unmap member_of (Contains members) sums (subst (All (Contains members)) (sym summed.members_are)
        (All-weaker (Contains (map flyer_of shares)) (Contains members) (λ member has. Contains-permutation (map flyer_of shares) members member back has) (last_members (map flyer_of shares))
        (last_are_members (map flyer_of shares))))

    totals_moved : IsPermutation ranked.totals (map total_of qs)
    totals_moved =
        let ps = map (team_of ranked.totals) sums in
        let made : IsPermutation (map total_of ps) (map total_of qs) = IsPermutation-map total_of ps qs ranked.teams_are in
        IsPermutation-trans ranked.totals (map total_of_sum sums) (map total_of qs) (IsPermutation-sym (map total_of_sum sums) ranked.totals ranked.totals_are)
        (subst (λ (l : List ℕ). IsPermutation l (map total_of qs)) (totals_same ranked.totals sums) made)

    each_one : All (λ sum. IsTeam members pilots qs (team_of ranked.totals sum)) sums
    each_one = all_both (λ sum. Contains members sum.member.now) (λ sum. sum.total ≡ sum_by (share_for sum.member.now.team) shares) (λ sum. IsTeam members pilots qs (team_of ranked.totals sum)) sums
        (λ sum has total. record {
          is_named = named members sum.member.now has;
          total_is = total ∙ shares_summed sum.member.now.team pilots shares shared.points_are
              ∙ sum_by-IsPermutation (points_for sum.member.now.team pilots) members (map flyer_of shares) shared.members_are;
          rank_is = ranks_same ranked.totals (map total_of qs) sum.total totals_moved;
        }) each_named summed.each
