use Rattle.std.proofs.Common.{◌≡◌, ◌+◌, length, map, take, drop}
use Rattle.gl_task.specs.Numbers.{repeated_after, first_repeated}
use Rattle.gl_task_file.proofs.twice.first_repeated.Given as goal

-- no number so far is that of an earlier entrant, and the rest decide
abbrev pub invariant-numbers : goal.invariant-numbers
invariant-numbers l = record {
  decides :
      first_repeated (map (λ entrant. entrant.number) l.entrants)
      ≡ repeated_after (map (λ entrant. entrant.number) (take l.n l.entrants)) (l.n + 1) (map (λ entrant. entrant.number) l.rest);
  rest : l.rest ≡ drop l.n l.entrants;
  number : l.n + length l.rest ≡ length l.entrants;
}

abbrev pub decreases-numbers : goal.decreases-numbers
decreases-numbers l = length l.rest
