use Rattle.std.proofs.Common.{Bor, ◌≡◌, ◌∙◌, subst, List, ◌++◌, drop, length, map, take, arith}
use Rattle.std.specs.List.Sorted.{IsPermutation, IsSorted}
use Rattle.std.proofs.lemmas.Grind.{common_steps}
use Rattle.std.proofs.lemmas.List.Sorted.{IsPermutation-map, length_permutation}
use Rattle.gl_series.specs.declared.day.DayRow.{DayRow}
use Rattle.gl_series.specs.Code.Tallies.{text_cmp}
use Rattle.gl_series.proofs.ordered.in_order.Goals as goal

pub returns-clause-ordered : goal.returns-clause-ordered
returns-clause-ordered c =
    let rows = c.in_ok-rows.rows in
    let sorted = c.sort.new.rows in
    let moved = subst (λ (l : List (Bor DayRow)). IsPermutation l sorted) c.deref_mut.ensures.value c.sort.ensures.all in
    let long = length_permutation rows.items sorted moved in
    let kept = rows.ok in
    let many = c.deref_mut.ensures.len in
    let same : sorted ≡ take rows.len (sorted ++ drop (length sorted) rows.items) = grind (arith, common_steps) in
    let now : Bor DayRow → DayRow = λ one. one.now in
    let whole = c.args.day.now.rows in
    let are : IsPermutation whole (map now sorted) = subst (λ (l : List DayRow). IsPermutation l (map now sorted)) (c.in_ok-rows.ensures
    ∙ c.as_slice.ensures) (IsPermutation-map now rows.items sorted moved) in
    record {
      day = c.requires;
      rows_are = subst (λ (l : List (Bor DayRow)). IsPermutation whole (map now l)) same are;
      in_order = subst (IsSorted (λ one other. text_cmp one.now.number other.now.number)) same c.sort.ensures.sorted;
    }
