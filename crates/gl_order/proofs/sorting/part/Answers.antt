use Rattle.std.proofs.Common.{◌≡◌, subst, ◌+◌, ◌-◌, ◌<◌, ◌≤◌, length, get_or, arith}
use Rattle.std.proofs.lemmas.List.Sorted.{All-permutation, IsPermutation-trans}
use Rattle.gl_order.specs.Code.Ends.{EndsBy}
use Rattle.gl_order.proofs.Partings.{PartedAt, parted_narrow, parted_swap, wrong_right}
use Rattle.gl_order.proofs.sorting.part.Goals as goal

pub first_later-front-requires-clause-axis : goal.first_later-front-requires-clause-axis
first_later-front-requires-clause-axis g c = All-permutation (λ box. c.args.axis < length (g.B.Boxed.spans box)) c.args.boxes.now c.boxes.boxes c.boxes.invariant.permutation c.requires

pub after_last_ended-back-requires-clause-axis : goal.after_last_ended-back-requires-clause-axis
after_last_ended-back-requires-clause-axis g c = All-permutation (λ box. c.args.axis < length (g.B.Boxed.spans box)) c.args.boxes.now c.boxes.boxes c.boxes.invariant.permutation c.requires

pub boxes-preserved-then-front-back : goal.boxes-preserved-then-front-back
boxes-preserved-then-front-back g c =
    let P : g.row.B.Denot → Type 0 = λ box. EndsBy c.args.axis c.args.last (g.B.Boxed.spans box) in
    let l = c.boxes in
    let front = c.first_later-front.result in
    let back = c.after_last_ended-back.result in
    let last = back - 1 in
    let some : front < back = omega (arith, c.if-front-back.true) in
    let most : back ≤ l.back = omega (arith, c.after_last_ended-back.ensures.to) in
    let next : back ≡ last + 1 = omega (arith, some) in
    let inside : last < length l.boxes = omega (arith, some, most, l.invariant.within) in
    let wrong : (d : g.row.B.Denot) → P (get_or l.boxes front d) → ⊥ = λ d. c.first_later-front.ensures.found (omega (arith, some, most)) front d (omega arith) (omega arith) in
    let right : (d : g.row.B.Denot) → P (get_or l.boxes last d) = λ d. c.after_last_ended-back.ensures.found some last d (omega arith) (omega (arith, some)) in
    let order : front < last = omega (arith, some, wrong_right P l.boxes front last inside wrong right) in
    let parted = parted_narrow P l.boxes l.front l.back front back l.invariant.parted c.first_later-front.ensures.passed c.after_last_ended-back.ensures.passed in
    record {
      order = omega (arith, order);
      within = omega (arith, inside, c.swap.ensures.len);
      permutation = IsPermutation-trans _ _ _ l.invariant.permutation c.swap.ensures.permutation;
      parted = parted_swap P l.boxes c.swap.new.self front last c.swap.ensures.by_index c.swap.ensures.len order wrong right (subst (PartedAt P l.boxes front) next parted);
    }
