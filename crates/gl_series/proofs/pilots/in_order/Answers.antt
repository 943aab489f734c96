use Rattle.std.proofs.Common.{ap, length, map, arith}
use Rattle.std.proofs.lemmas.List.{length-map}
use Rattle.std.proofs.lemmas.List.Sorted.{length_permutation}
use Rattle.gl_series.specs.Code.Tallies.{total_of_tally}
use Rattle.gl_series.proofs.pilots.in_order.Goals as goal

pub ranked-requires-clause-few : goal.ranked-requires-clause-few
ranked-requires-clause-few c =
    let tallies = c.args.tallies.now in
    let totals = c.in_ok-totals.totals.items in
    omega (arith, c.requires, ap length c.deref.ensures.value, length_permutation (map total_of_tally tallies) totals c.in_ok-totals.ensures.all, length-map tallies total_of_tally)
