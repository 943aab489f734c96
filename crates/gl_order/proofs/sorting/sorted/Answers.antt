use Rattle.std.proofs.Common.{sym, subst, List, arith}
use Rattle.std.specs.List.Sorted.{IsPermutation}
use Rattle.std.proofs.lemmas.List.Sorted.{IsPermutation-trans, length_permutation}
use Rattle.std.proofs.lemmas.List.{with_items_is}
use Rattle.gl_box.specs.Cell.{spans_of}
use Rattle.gl_order.proofs.Partings.{parts-permutation}
use Rattle.gl_order.proofs.sorting.sorted.Goals as goal

pub put_in_order-requires : goal.put_in_order-requires
put_in_order-requires g c =
    let brought = subst (λ (boxes : List g.row.B.Denot). IsPermutation boxes c.bring_stretches.new.boxes) c.as_mut_slice-boxes.ensures.value c.in_ok-bring_stretches.ensures in
    parts-permutation g.B.Boxed.spans (spans_of c.args.whole.now) c.args.parts.items c.bring_stretches.new.boxes brought c.requires

pub returns-clause-permutation : goal.returns-clause-permutation
returns-clause-permutation g c =
    let parts = c.args.parts in
    let boxes = c.put_in_order.new.boxes in
    let brought = subst (λ (lent : List g.row.B.Denot). IsPermutation lent c.bring_stretches.new.boxes) c.as_mut_slice-boxes.ensures.value c.in_ok-bring_stretches.ensures in
    let same = IsPermutation-trans parts.items c.bring_stretches.new.boxes boxes brought c.in_ok-put_in_order.ensures.permutation in
    subst (IsPermutation parts.items) (sym (with_items_is parts boxes (omega (arith, length_permutation parts.items boxes same, parts.ok.0)))) same
