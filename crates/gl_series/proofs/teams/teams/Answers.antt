use Rattle.std.proofs.Common.{ap, subst, List, length, arith}
use Rattle.std.proofs.lemmas.Result.{IfOk-weaker}
use Rattle.gl_series.specs.declared.shares.Share.{Share}
use Rattle.gl_series.specs.declared.standing.Total.{Total}
use Rattle.gl_series.specs.declared.teams.TeamSum.{TeamSum}
use Rattle.gl_series.specs.Code.Tallies.{AreRankedTeams, AreShares, AreTeamSums}
use Rattle.gl_series.proofs.Summed.{shares_few, sums_few, teams_of}
use Rattle.gl_series.proofs.teams.teams.Goals as goal

pub team_sums-requires-clause-few : goal.team_sums-requires-clause-few
team_sums-requires-clause-few c =
    omega (arith, ap length c.deref.ensures.value, shares_few c.args.members.now c.in_ok-pilots.pilots.pilots.now c.in_ok-shares.shares.items c.in_ok-shares.ensures c.requires.few)

pub in_order-requires : goal.in_order-requires
in_order-requires c =
    let shares = c.in_ok-shares.shares.items in
    let few = shares_few c.args.members.now c.in_ok-pilots.pilots.pilots.now shares c.in_ok-shares.ensures c.requires.few in
    let summed = subst (λ (l : List Share). AreTeamSums l c.in_ok-sums.sums.items) c.deref.ensures.value c.in_ok-sums.ensures in
    omega (arith, ap length c.deref-2.ensures.value, sums_few shares c.in_ok-sums.sums.items summed few)

pub returns : goal.returns
returns c =
    let members = c.args.members.now in
    let pilots = c.args.pilots.now in
    let shares = c.in_ok-shares.shares.items in
    let sums = c.in_ok-sums.sums.items in
    let shared = subst (λ (l : List Total). AreShares members l shares) c.in_ok-pilots.ensures.pilots c.in_ok-shares.ensures in
    let summed = subst (λ (l : List Share). AreTeamSums l sums) c.deref.ensures.value c.in_ok-sums.ensures in
    IfOk-weaker c.in_order.result _ _ (λ teams ranked.
    teams_of members pilots shares sums teams.items shared summed (subst (λ (l : List TeamSum). AreRankedTeams l teams.items) c.deref-2.ensures.value ranked)) c.in_order.ensures
