use Rattle.std.proofs.Common.{sym, ap, ◌∙◌, ℕ, List, [], ◌∷◌, ◌++◌}
use Rattle.gl_series.specs.Code.Tallies.{total_of_sum}
use Rattle.gl_series.proofs.LastRows.{map_more}
use Rattle.gl_series.proofs.teams.totals_of.Goals as goal

pub loop-sum-preserved : goal.loop-sum-preserved
loop-sum-preserved c =
    let sum = c.sum-item.result in
    c.in_ok-push.ensures.items ∙ ap (λ (totals : List ℕ). totals ++ sum.total ∷ []) c.loop-sum.invariant
    ∙ sym (map_more total_of_sum c.args.sums.now c.loop-sum.sum-index sum c.loop-sum-test.true c.sum-item.is)
