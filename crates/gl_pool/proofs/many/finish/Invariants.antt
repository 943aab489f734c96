use Rattle.gl_pool.specs.Code.Tally.{IsTally}
use Rattle.gl_pool.proofs.Finishing.{Finishing}
use Rattle.gl_pool.proofs.many.finish.Given as goal

abbrev pub invariant-loop-number : goal.invariant-loop-number
invariant-loop-number g l =
    let rule = g.G.Goal.rule l.goal in
    record {
      is_tally : IsTally rule l.word l.tally;
      so_far : Finishing rule l.fn.places l.places l.fn.tally l.tally l.number;
    }
