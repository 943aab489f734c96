use Rattle.std.proofs.Common.{subst, ◌++◌}
use Rattle.std.specs.Prelude.{IsPermutation}
use Rattle.std.proofs.lemmas.List.Sorted.{IsPermutation-append, IsPermutation-trans}
use Rattle.gl_places.proofs.by_place.+gather.Goals as goal

pub returns : goal.returns
returns t c =
    let lower = c.split_at_mut-lower.result.0.now in
    let upper = c.split_at_mut-lower.result.1.now in
    let parted : IsPermutation c.args.numbers.now (lower ++ upper) =
    subst (IsPermutation c.args.numbers.now) c.split_at_mut-lower.ensures.value c.sort_unstable_by_key.ensures.permutation in
    IsPermutation-trans c.args.numbers.now (lower ++ upper) (c.gather.new.numbers ++ c.gather-2.new.numbers) parted
    (IsPermutation-append lower c.gather.new.numbers upper c.gather-2.new.numbers c.gather.ensures c.gather-2.ensures)
