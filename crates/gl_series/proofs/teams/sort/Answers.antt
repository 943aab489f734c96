use Rattle.std.proofs.Common.{rules}
use Rattle.std.specs.Ordering.{is_lt}
use Rattle.std.proofs.lemmas.List.Sorted.{answers_always, ranks_by}
use Rattle.gl_series.specs.Totals.{team_cmp}
use Rattle.gl_series.proofs.Orders.{team_cmp_total}
use Rattle.gl_series.proofs.teams.sort.Goals as goal

pub returns-clause-sorted : goal.returns-clause-sorted
returns-clause-sorted c =
    c.sort_unstable_by.ensures.sorted (λ a b. is_lt (team_cmp a b)) (ranks_by team_cmp_total (λ team. team)) (answers_always _ _ _ (λ f a r g h. search rules))
