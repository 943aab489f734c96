use Rattle.std.proofs.Common.{◌≤◌, ◌+◌, All, length}
use Rattle.gl_best.specs.Seats.{IsSeatOf, view_of}
use Rattle.gl_worker_examples.proofs.best_word.seats_for.Given as goal

abbrev pub invariant-loop : goal.invariant-loop
invariant-loop l =
    IsSeatOf l.word l.first × (l.count + 1 ≤ length (view_of l.first).numbers + l.counter) × All (IsSeatOf l.word) l.seats.items
