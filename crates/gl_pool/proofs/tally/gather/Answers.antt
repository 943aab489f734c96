use Rattle.std.proofs.lemmas.Result.{on_ok_weaker}
use Rattle.gl_pool.proofs.Tallies.{gathered}
use Rattle.gl_pool.proofs.tally.gather.Goals as goal

pub returns : goal.returns
returns c = on_ok_weaker c.join_runs.result (λ joined. gathered c.args.word.now c.args.tally.now c.args.other _ c.gather.ensures.seat c.gather.ensures.both c.greater-tally.ensures joined)
    c.join_runs.ensures
