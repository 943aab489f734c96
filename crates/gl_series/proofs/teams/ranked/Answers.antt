use Rattle.std.proofs.Common.{◌∙◌, sym, ◌++◌, ◌∷◌, []}
use Rattle.gl_series.specs.Code.Tallies.{team_of}
use Rattle.gl_series.proofs.LastRows.{map_more}
use Rattle.gl_series.proofs.teams.ranked.Goals as goal

pub loop-sum-preserved : goal.loop-sum-preserved
loop-sum-preserved c =
    let sums = c.args.sums.now in
    c.in_ok-push.ensures.items
    ∙ (λ i. c.loop-sum.invariant i ++ c.in_ok-team.ensures i ∷ [])
    ∙ sym (map_more (team_of c.args.totals.now) sums c.loop-sum.sum-index c.sum-item.result c.loop-sum-test.true c.sum-item.is)
