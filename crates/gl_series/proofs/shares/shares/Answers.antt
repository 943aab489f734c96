use Rattle.std.proofs.Common.{◌≡◌, subst, List, ◌++◌, drop, length, take, arith}
use Rattle.std.specs.List.Sorted.{IsPermutation}
use Rattle.std.proofs.lemmas.Grind.{common_steps}
use Rattle.std.proofs.lemmas.List.Sorted.{length_permutation}
use Rattle.gl_series.specs.declared.shares.Share.{Share}
use Rattle.gl_series.specs.Code.Tallies.{AreShares}
use Rattle.gl_series.proofs.Summed.{shares_in_order}
use Rattle.gl_series.proofs.shares.shares.Goals as goal

pub returns : goal.returns
returns c =
    let shares = c.in_ok-shares.shares in
    let sorted = c.sort.new.shares in
    let moved = subst (λ (l : List Share). IsPermutation l sorted) c.deref_mut.ensures.value c.sort.ensures.all in
    let long = length_permutation shares.items sorted moved in
    let kept = shares.ok in
    let many = c.deref_mut.ensures.len in
    let same : sorted ≡ take shares.len (sorted ++ drop (length sorted) shares.items) = grind (arith, common_steps) in
    let pilots = c.args.pilots.now.pilots.now in
    subst (AreShares c.args.members.now pilots) same (shares_in_order c.args.members.now pilots shares.items sorted c.in_ok-shares.ensures moved c.sort.ensures.sorted)
