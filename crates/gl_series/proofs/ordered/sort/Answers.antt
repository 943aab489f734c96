use Rattle.std.proofs.Common.{Bor, rules}
use Rattle.std.specs.Cmp.Lexicographic.{nat_list_cmp_total}
use Rattle.std.specs.Ordering.{is_lt}
use Rattle.std.proofs.lemmas.List.Sorted.{answers_always, ranks_by}
use Rattle.gl_series.specs.declared.day.DayRow.{DayRow}
use Rattle.gl_series.specs.Code.Tallies.{text_cmp}
use Rattle.gl_series.proofs.ordered.sort.Goals as goal

pub returns-clause-sorted : goal.returns-clause-sorted
returns-clause-sorted c =
    c.sort_unstable_by.ensures.sorted (λ a b. is_lt (text_cmp a.now.number b.now.number)) (ranks_by nat_list_cmp_total (λ (one : Bor DayRow). one.now.number))
    (answers_always _ _ _ (λ f a r g h. search rules))
