use Rattle.std.proofs.Common.{length}
use Rattle.std.specs.Prelude.{All}
use Rattle.gl_best.specs.Seats.{IsSeatOf}
use Rattle.gl_pool.specs.Code.Crew.{has_seat}
use Rattle.gl_pool.proofs.Collecting.{Collecting}
use Rattle.gl_pool.proofs.crew.collected.Given as goal

abbrev pub invariant-others : goal.invariant-others
invariant-others l = record {
  seats : All (has_seat l.word) l.workers.items;
  seat : IsSeatOf l.word l.tally.seat;
  so_far : Collecting l.word l.fn.workers.items l.workers.items l.places.items l.tally;
}

abbrev pub decreases-others : goal.decreases-others
decreases-others l = length l.workers.items
