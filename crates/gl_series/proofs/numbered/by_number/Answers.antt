use Rattle.std.proofs.Common.{Bor, ◌≡◌, subst, List, ◌++◌, drop, length, map, take, arith}
use Rattle.std.specs.List.Sorted.{IsPermutation, IsSorted}
use Rattle.std.proofs.lemmas.Grind.{common_steps}
use Rattle.std.proofs.lemmas.List.Sorted.{IsPermutation-map, length_permutation}
use Rattle.gl_series.specs.declared.standing.Total.{Total}
use Rattle.gl_series.specs.Code.Tallies.{text_cmp}
use Rattle.gl_series.proofs.numbered.by_number.Goals as goal

pub returns-clause-numbered : goal.returns-clause-numbered
returns-clause-numbered c =
    let places = c.in_ok-in_order.in_order in
    let sorted = c.sort.new.pilots in
    let moved = subst (λ (l : List (Bor Total)). IsPermutation l sorted) c.deref_mut.ensures.value c.sort.ensures.all in
    let long = length_permutation places.items sorted moved in
    let kept = places.ok in
    let many = c.deref_mut.ensures.len in
    let same : sorted ≡ take places.len (sorted ++ drop (length sorted) places.items) = grind (arith, common_steps) in
    let now : Bor Total → Total = λ one. one.now in
    let are : IsPermutation c.args.pilots.now (map now sorted) = subst (λ (l : List Total). IsPermutation l (map now sorted)) c.in_ok-in_order.ensures
    (IsPermutation-map now places.items sorted moved) in
    record {
      apart = c.requires.apart;
      low = c.requires.low;
      pilots_are = subst (λ (l : List (Bor Total)). IsPermutation c.args.pilots.now (map now l)) same are;
      in_order = subst (IsSorted (λ one other. text_cmp one.now.number other.now.number)) same c.sort.ensures.sorted;
    }
