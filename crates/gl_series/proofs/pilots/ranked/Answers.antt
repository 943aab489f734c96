use Rattle.std.proofs.Common.{◌∙◌, sym, ◌++◌, ◌∷◌, []}
use Rattle.gl_series.specs.Code.Tallies.{pilot_of}
use Rattle.gl_series.proofs.LastRows.{map_more}
use Rattle.gl_series.proofs.pilots.ranked.Goals as goal

pub loop-tally-preserved : goal.loop-tally-preserved
loop-tally-preserved c =
    let tallies = c.args.tallies.now in
    c.in_ok-push.ensures.items
    ∙ (λ i. c.loop-tally.invariant i ++ c.in_ok-pilot.ensures i ∷ [])
    ∙ sym (map_more (pilot_of c.args.totals.now) tallies c.loop-tally.tally-index c.tally-item.result c.loop-tally-test.true c.tally-item.is)
