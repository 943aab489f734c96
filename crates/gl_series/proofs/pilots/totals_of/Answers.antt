use Rattle.std.proofs.Common.{sym, ap, ◌∙◌, ℕ, List, [], ◌∷◌, ◌++◌}
use Rattle.gl_series.specs.Code.Tallies.{total_of_tally}
use Rattle.gl_series.proofs.LastRows.{map_more}
use Rattle.gl_series.proofs.pilots.totals_of.Goals as goal

pub loop-tally-preserved : goal.loop-tally-preserved
loop-tally-preserved c =
    let tally = c.tally-item.result in
    c.in_ok-push.ensures.items ∙ ap (λ (totals : List ℕ). totals ++ tally.total ∷ []) c.loop-tally.invariant
    ∙ sym (map_more total_of_tally c.args.tallies.now c.loop-tally.tally-index tally c.loop-tally-test.true c.tally-item.is)
