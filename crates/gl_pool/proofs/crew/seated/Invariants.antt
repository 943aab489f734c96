use Rattle.gl_pool.proofs.Seating.{Seating}
use Rattle.gl_pool.proofs.crew.seated.Given as goal

-- the places that are left are still without a worker
abbrev pub invariant-loop-place : goal.invariant-loop-place
invariant-loop-place l = Seating l.word l.fn.places.items l.place-iterator.rest.items l.last l.fn.tally l.tally l.workers.items
