use Rattle.std.proofs.Common.{leb, arith, rules}
use Rattle.std.proofs.lemmas.List.Sorted.{IsPartitionPoint-from_clause, IsPartitionedBy-leb}
use Rattle.gl_series.proofs.GreaterOnes.{rank_at}
use Rattle.gl_series.proofs.ranks.rank.Goals as goal

pub returns : goal.returns
returns c =
    let parted = IsPartitionedBy-leb (λ total. total) c.args.totals.now c.args.total c.requires.sorted in
    let point = IsPartitionPoint-from_clause (λ other. leb other c.args.total) c.args.totals.now _ c.partition_point-not_greater.ensures.partitioned parted (λ a r q k. search rules) in
    let is = rank_at c.args.total c.args.totals.now c.partition_point-not_greater.result c.partition_point-not_greater.ensures.bound point in
    omega (arith, is)
