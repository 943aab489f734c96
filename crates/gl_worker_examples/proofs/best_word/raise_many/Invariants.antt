use Rattle.gl_best.specs.Seats.{IsSeatOf}
use Rattle.gl_worker_examples.proofs.best_word.raise_many.Given as goal

abbrev pub invariant-loop-total : goal.invariant-loop-total
invariant-loop-total l = IsSeatOf l.word l.seat
