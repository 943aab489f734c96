use Rattle.std.proofs.Common.{◌≡◌, subst, List, ◌++◌, drop, length, take, arith}
use Rattle.std.specs.List.Sorted.{IsPermutation}
use Rattle.std.proofs.lemmas.Grind.{common_steps}
use Rattle.std.proofs.lemmas.List.Sorted.{length_permutation}
use Rattle.gl_series.specs.declared.scored.Scored.{Scored}
use Rattle.gl_series.specs.Code.Tallies.{AreInOrder, days_of}
use Rattle.gl_series.proofs.Least.{in_order}
use Rattle.gl_series.proofs.scored.in_order.Goals as goal

pub returns : goal.returns
returns c =
    let scored = c.in_ok-scored.scored in
    let sorted = c.sort.new.scored in
    let moved = subst (λ (l : List Scored). IsPermutation l sorted) c.deref_mut.ensures.value c.sort.ensures.all in
    let long = length_permutation scored.items sorted moved in
    let kept = scored.ok in
    let many = c.deref_mut.ensures.len in
    let same : sorted ≡ take scored.len (sorted ++ drop (length sorted) scored.items) = grind (arith, common_steps) in
    subst (λ (l : List Scored). AreInOrder c.args.number.now (days_of c.args.days.now) l) same
    (in_order (days_of c.args.days.now) c.args.number.now scored.items sorted c.in_ok-scored.ensures moved c.sort.ensures.sorted)
