use Rattle.std.proofs.Common.{ap, length, map, arith}
use Rattle.std.proofs.lemmas.List.{length-map}
use Rattle.std.proofs.lemmas.List.Sorted.{length_permutation}
use Rattle.gl_series.specs.Code.Tallies.{total_of_sum}
use Rattle.gl_series.proofs.teams.in_order.Goals as goal

pub ranked-requires-clause-few : goal.ranked-requires-clause-few
ranked-requires-clause-few c =
    let sums = c.args.sums.now in
    let totals = c.in_ok-totals.totals.items in
    omega (arith, c.requires, ap length c.deref.ensures.value, length_permutation (map total_of_sum sums) totals c.in_ok-totals.ensures.all, length-map sums total_of_sum)
