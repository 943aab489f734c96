use Rattle.std.proofs.Common.{Bor, ◌≡◌, ◌∙◌, sym, ap, subst, ◌<◌, ◌≤◌, List, length, get_or, arith, rules}
use Rattle.std.proofs.lemmas.List.Elements.{All-contains}
use Rattle.gl_series.proofs.Beside.{total_none, total_there}
use Rattle.std.specs.declared.cmp.Ordering.{Ordering}
use Rattle.std.specs.declared.cmp.Ordering.TheVariants.{Less, Greater}
use Rattle.std.specs.List.Sorted.{IsNonDecreasingBy, IsPartitionPoint}
use Rattle.std.specs.Ordering.{ordering_index}
use Rattle.std.proofs.lemmas.Fn.{always_returns_same}
use Rattle.gl_series.specs.declared.standing.Total.{Total}
use Rattle.gl_series.specs.Code.Tallies.{text_cmp}
use Rattle.gl_series.proofs.Searched.{equal_texts, none_among, one_among}
use Rattle.gl_series.proofs.numbered.total_in.Goals as goal

pub returns-in-Ok-clause-value : goal.returns-in-Ok-clause-value
returns-in-Ok-clause-value c =
    let ord : Bor Total → Ordering = λ one. text_cmp one.now.number c.args.number.now in
    let at = c.in-Ok.ensures.position ord (always_returns_same _ (λ a r. r ≡ ord a.0.now) _ (λ a r f h. search rules)) in
    let one = c.index.result.now in
    let here : get_or c.deref.result.now c.in-Ok.place one ≡ one = ap (λ (l : List (Bor Total)). get_or l c.in-Ok.place one) c.deref.ensures.value ∙ sym c.index.ensures in
    let number = equal_texts one.now.number c.args.number.now (ap ord (sym here) ∙ at one) in
    let inside : c.in-Ok.place < length c.args.pilots.now.in_order.items = omega (arith, c.in-Ok.ensures.bound, ap length c.deref.ensures.value) in
    let there = one_among (λ (row : Total). row.number) c.args.pilots.now.pilots.now c.args.pilots.now.in_order.items c.requires.pilots_are c.in-Ok.place c.index.result.now inside c.index.ensures in
    sym (total_there c.args.number.now c.args.pilots.now.pilots.now one.now c.requires.apart there number)

pub returns-in-Ok-clause-low : goal.returns-in-Ok-clause-low
returns-in-Ok-clause-low c =
    let inside : c.in-Ok.place < length c.args.pilots.now.in_order.items = omega (arith, c.in-Ok.ensures.bound, ap length c.deref.ensures.value) in
    let there = one_among (λ (row : Total). row.number) c.args.pilots.now.pilots.now c.args.pilots.now.in_order.items c.requires.pilots_are c.in-Ok.place c.index.result.now inside c.index.ensures in
    All-contains (λ (pilot : Total). pilot.total ≤ 30_000) c.args.pilots.now.pilots.now c.index.result.now.now c.requires.low there

pub returns-in-Err-clause-value : goal.returns-in-Err-clause-value
returns-in-Err-clause-value c =
    let ord : Bor Total → Ordering = λ one. text_cmp one.now.number c.args.number.now in
    let point = c.in-Err.ensures.position ord (always_returns_same _ (λ a r. r ≡ ord a.0.now) _ (λ a r f h. search rules)) in
    let at = subst (λ (l : List (Bor Total)). IsNonDecreasingBy (λ x. ordering_index (ord x)) l
    → IsPartitionPoint (λ x. ord x ≡ Less) (λ x. ord x ≡ Greater) l c.in-Err.field-0) c.deref.ensures.value point in
    sym (total_none c.args.number.now c.args.pilots.now.pilots.now (none_among
    (λ (row : Total). row.number) c.args.pilots.now.pilots.now c.args.pilots.now.in_order.items c.requires.pilots_are c.args.number.now c.in-Err.field-0 c.requires.in_order at))
