use Rattle.std.proofs.Common.{Bor, ◌≡◌, ◌∙◌, sym, ap, subst, ◌<◌, List, length, get_or, arith, rules}
use Rattle.std.specs.declared.cmp.Ordering.{Ordering}
use Rattle.std.specs.declared.cmp.Ordering.TheVariants.{Less, Greater}
use Rattle.std.specs.List.Sorted.{IsNonDecreasingBy, IsPartitionPoint}
use Rattle.std.specs.Ordering.{ordering_index}
use Rattle.std.proofs.lemmas.Fn.{always_returns_same}
use Rattle.gl_series.specs.declared.day.DayRow.{DayRow}
use Rattle.gl_series.specs.Code.Tallies.{text_cmp}
use Rattle.gl_series.proofs.Searched.{equal_texts, none_among, one_among}
use Rattle.gl_series.proofs.ordered.row_beside.Goals as goal

pub returns-in-Ok : goal.returns-in-Ok
returns-in-Ok c =
    let ord : Bor DayRow → Ordering = λ one. text_cmp one.now.number c.args.number.now in
    let at = c.in-Ok.ensures.position ord (always_returns_same _ (λ a r. r ≡ ord a.0.now) _ (λ a r f h. search rules)) in
    let one = c.index.result.now in
    let here : get_or c.deref.result.now c.in-Ok.place one ≡ one = ap (λ (l : List (Bor DayRow)). get_or l c.in-Ok.place one) c.deref.ensures.value ∙ sym c.index.ensures in
    let number = equal_texts one.now.number c.args.number.now (ap ord (sym here) ∙ at one) in
    let inside : c.in-Ok.place < length c.args.day.now.rows.items = omega (arith, c.in-Ok.ensures.bound, ap length c.deref.ensures.value) in
    let there = one_among (λ (row : DayRow). row.number) c.args.day.now.day.now.rows c.args.day.now.rows.items c.requires.rows_are c.in-Ok.place c.index.result.now inside c.index.ensures in
    (there, number)

pub returns-in-Err : goal.returns-in-Err
returns-in-Err c =
    let ord : Bor DayRow → Ordering = λ one. text_cmp one.now.number c.args.number.now in
    let point = c.in-Err.ensures.position ord (always_returns_same _ (λ a r. r ≡ ord a.0.now) _ (λ a r f h. search rules)) in
    let at = subst (λ (l : List (Bor DayRow)). IsNonDecreasingBy (λ x. ordering_index (ord x)) l
    → IsPartitionPoint (λ x. ord x ≡ Less) (λ x. ord x ≡ Greater) l c.in-Err.field-0) c.deref.ensures.value point in
    none_among (λ (row : DayRow). row.number) c.args.day.now.day.now.rows c.args.day.now.rows.items c.requires.rows_are c.args.number.now c.in-Err.field-0 c.requires.in_order at
