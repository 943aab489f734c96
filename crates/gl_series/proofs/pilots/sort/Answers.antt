use Rattle.std.proofs.Common.{rules}
use Rattle.std.specs.Ordering.{is_lt}
use Rattle.std.proofs.lemmas.List.Sorted.{answers_always, ranks_by}
use Rattle.gl_series.specs.Totals.{pilot_cmp}
use Rattle.gl_series.proofs.Orders.{pilot_cmp_total}
use Rattle.gl_series.proofs.pilots.sort.Goals as goal

pub returns-clause-sorted : goal.returns-clause-sorted
returns-clause-sorted c =
    c.sort_unstable_by.ensures.sorted (λ a b. is_lt (pilot_cmp a b)) (ranks_by pilot_cmp_total (λ pilot. pilot)) (answers_always _ _ _ (λ f a r g h. search rules))
