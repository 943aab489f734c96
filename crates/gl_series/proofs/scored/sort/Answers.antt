use Rattle.std.proofs.Common.{rules}
use Rattle.std.proofs.lemmas.List.Sorted.{IsNonDecreasingBy-from_sort_by}
use Rattle.gl_series.proofs.scored.sort.Goals as goal

pub returns-clause-sorted : goal.returns-clause-sorted
returns-clause-sorted c =
    IsNonDecreasingBy-from_sort_by (λ one. one.points) c.sort_unstable_by.new.self c.sort_unstable_by.ensures.sorted (λ a r f called. search rules)
