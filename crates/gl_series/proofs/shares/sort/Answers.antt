use Rattle.std.proofs.Common.{rules}
use Rattle.std.specs.Cmp.Lexicographic.{nat_list_cmp_total}
use Rattle.std.specs.Ordering.{is_lt}
use Rattle.std.proofs.lemmas.List.Sorted.{answers_always, ranks_by}
use Rattle.gl_series.specs.declared.shares.Share.{Share}
use Rattle.gl_series.specs.Code.Tallies.{share_cmp}
use Rattle.gl_series.proofs.shares.sort.Goals as goal

pub returns-clause-sorted : goal.returns-clause-sorted
returns-clause-sorted c =
    c.sort_unstable_by.ensures.sorted (λ a b. is_lt (share_cmp a b)) (ranks_by nat_list_cmp_total (λ (one : Share). one.member.now.team)) (answers_always _ _ _ (λ f a r g h. search rules))
