use Rattle.std.proofs.Common.{◌≡◌, ◌≢◌, sym, ap, subst, codes, List, [], map, Option, None, Some}
use Rattle.std.specs.Prelude.{unwrap_or}
use Rattle.std.proofs.lemmas.Result.{err_from_is_err_and}
use Rattle.toml.specs.Data.{Data, Members, no_members}
use Rattle.toml.specs.View.{table_view, view}
use Rattle.gl_task_file.specs.declared.error.TaskError.TheVariants.{Memory}
use Rattle.gl_task_file.specs.Keys.{each_item, first_failed, list_of, said, table_of}
use Rattle.gl_task_file.specs.Places.{place}
use Rattle.gl_task_file.specs.Table.{list_under, part_key}
use Rattle.gl_task_file.specs.Tests.{part_tests, zone_tests}
use Rattle.gl_task_file.proofs.TestLemmas.{before, behind, most_as, needed_as, right_as, some_as}
use Rattle.gl_task_file.proofs.zones.ZoneReaderReadItem.read_item.Goals as goal

pub returns-in_err-table-clause-refused : goal.returns-in_err-table-clause-refused
unfolding zone_tests
returns-in_err-table-clause-refused c =
    let wrong = c.in_err-table.field-0.0 in
    let told = err_from_is_err_and c.from_residual.result c.from_residual.ensures.1 in
    let fact : first_failed (zone_tests c.args.zone (view c.args.value.now)) ≡ Some wrong = before _ _ wrong (right_as _ _ _ (Some wrong) c.row_of_item.ensures c.in_err-table.ensures.refused) in
    rw (told.1, told.2) (λ some. fact)

pub returns-in_err-centre-clause-refused : goal.returns-in_err-centre-clause-refused
unfolding zone_tests
returns-in_err-centre-clause-refused c =
    let same : table_view c.in_ok-table.table.now ≡ table_of (view c.args.value.now) = sym (ap (λ (o : Option Members). unwrap_or o no_members) c.in_ok-table.ensures.ok) in
    let wrong = c.in_err-centre.field-0.0 in
    let told = err_from_is_err_and c.from_residual-in_err-centre.result c.from_residual-in_err-centre.ensures.1 in
    let fact : first_failed (zone_tests c.args.zone (view c.args.value.now)) ≡ Some wrong = behind _ _ (Some wrong) (right_as _ _ _ None c.row_of_item.ensures c.in_ok-table.ensures.passes)
    (before _ _ wrong (needed_as _ _ (codes "at") place _ _ (Some wrong) c.row_of_item-2.ensures same c.in_err-centre.ensures.refused)) in
    rw (told.1, told.2) (λ some. fact)

pub returns-in_err-values-clause-refused : goal.returns-in_err-values-clause-refused
unfolding zone_tests
returns-in_err-values-clause-refused c =
    let same : table_view c.in_ok-table.table.now ≡ table_of (view c.args.value.now) = sym (ap (λ (o : Option Members). unwrap_or o no_members) c.in_ok-table.ensures.ok) in
    let wrong = c.in_err-values.field-0.0 in
    let told = err_from_is_err_and c.from_residual-in_err-values.result c.from_residual-in_err-values.ensures.1 in
    let fact : first_failed (zone_tests c.args.zone (view c.args.value.now)) ≡ Some wrong = behind _ _ (Some wrong) (right_as _ _ _ None c.row_of_item.ensures c.in_ok-table.ensures.passes)
    (behind _ _ (Some wrong) (needed_as _ _ (codes "at") place _ _ None c.row_of_item-2.ensures same c.in_ok-centre.ensures.passes)
    (before _ _ wrong (needed_as _ _ (codes "part") list_of _ _ (Some wrong) c.row_of_item-3.ensures same c.in_err-values.ensures.refused))) in
    rw (told.1, told.2) (λ some. fact)

pub returns-in_err-some_item-clause-refused : goal.returns-in_err-some_item-clause-refused
unfolding zone_tests
returns-in_err-some_item-clause-refused c =
    let same : table_view c.in_ok-table.table.now ≡ table_of (view c.args.value.now) = sym (ap (λ (o : Option Members). unwrap_or o no_members) c.in_ok-table.ensures.ok) in
    let parts : map view c.in_ok-values.values.now ≡ list_under part_key (table_of (view c.args.value.now)) = sym (ap (λ (o : Option (List Data)). unwrap_or o []) (subst (λ (m : Members). said (codes "part") list_of m ≡ Some (map view c.in_ok-values.values.now)) same c.in_ok-values.ensures.ok)) in
    let wrong = c.in_err-some_item.field-0.0 in
    let told = err_from_is_err_and c.from_residual-in_err-some_item.result c.from_residual-in_err-some_item.ensures.1 in
    let fact : first_failed (zone_tests c.args.zone (view c.args.value.now)) ≡ Some wrong = behind _ _ (Some wrong) (right_as _ _ _ None c.row_of_item.ensures c.in_ok-table.ensures.passes)
    (behind _ _ (Some wrong) (needed_as _ _ (codes "at") place _ _ None c.row_of_item-2.ensures same c.in_ok-centre.ensures.passes)
    (behind _ _ (Some wrong) (needed_as _ _ (codes "part") list_of _ _ None c.row_of_item-3.ensures same c.in_ok-values.ensures.passes)
    (before _ _ wrong (some_as _ _ _ _ (Some wrong) c.row_of_item-4.ensures parts c.in_err-some_item.ensures.refused)))) in
    rw (told.1, told.2) (λ some. fact)

pub returns-in_err-at_most-clause-refused : goal.returns-in_err-at_most-clause-refused
unfolding zone_tests
returns-in_err-at_most-clause-refused c =
    let same : table_view c.in_ok-table.table.now ≡ table_of (view c.args.value.now) = sym (ap (λ (o : Option Members). unwrap_or o no_members) c.in_ok-table.ensures.ok) in
    let parts : map view c.in_ok-values.values.now ≡ list_under part_key (table_of (view c.args.value.now)) = sym (ap (λ (o : Option (List Data)). unwrap_or o []) (subst (λ (m : Members). said (codes "part") list_of m ≡ Some (map view c.in_ok-values.values.now)) same c.in_ok-values.ensures.ok)) in
    let wrong = c.in_err-at_most.field-0.0 in
    let told = err_from_is_err_and c.from_residual-in_err-at_most.result c.from_residual-in_err-at_most.ensures.1 in
    let fact : first_failed (zone_tests c.args.zone (view c.args.value.now)) ≡ Some wrong = behind _ _ (Some wrong) (right_as _ _ _ None c.row_of_item.ensures c.in_ok-table.ensures.passes)
    (behind _ _ (Some wrong) (needed_as _ _ (codes "at") place _ _ None c.row_of_item-2.ensures same c.in_ok-centre.ensures.passes)
    (behind _ _ (Some wrong) (needed_as _ _ (codes "part") list_of _ _ None c.row_of_item-3.ensures same c.in_ok-values.ensures.passes)
    (behind _ _ (Some wrong) (some_as _ _ _ _ None c.row_of_item-4.ensures parts c.in_ok-some_item.ensures.passes)
    (before _ _ wrong (most_as _ _ 4 _ _ (Some wrong) c.row_of_item-5.ensures parts c.in_err-at_most.ensures.refused))))) in
    rw (told.1, told.2) (λ some. fact)

pub returns-in_err-parts-clause-refused : goal.returns-in_err-parts-clause-refused
unfolding zone_tests
returns-in_err-parts-clause-refused c =
    let same : table_view c.in_ok-table.table.now ≡ table_of (view c.args.value.now) = sym (ap (λ (o : Option Members). unwrap_or o no_members) c.in_ok-table.ensures.ok) in
    let parts : map view c.in_ok-values.values.now ≡ list_under part_key (table_of (view c.args.value.now)) = sym (ap (λ (o : Option (List Data)). unwrap_or o []) (subst (λ (m : Members). said (codes "part") list_of m ≡ Some (map view c.in_ok-values.values.now)) same c.in_ok-values.ensures.ok)) in
    let wrong = c.in_err-parts.field-0.0 in
    let told = err_from_is_err_and c.from_residual-in_err-parts.result c.from_residual-in_err-parts.ensures.1 in
    let fact : wrong ≢ Memory → first_failed (zone_tests c.args.zone (view c.args.value.now)) ≡ Some wrong = λ some. behind _ _ (Some wrong) (right_as _ _ _ None c.row_of_item.ensures c.in_ok-table.ensures.passes)
    (behind _ _ (Some wrong) (needed_as _ _ (codes "at") place _ _ None c.row_of_item-2.ensures same c.in_ok-centre.ensures.passes)
    (behind _ _ (Some wrong) (needed_as _ _ (codes "part") list_of _ _ None c.row_of_item-3.ensures same c.in_ok-values.ensures.passes)
    (behind _ _ (Some wrong) (some_as _ _ _ _ None c.row_of_item-4.ensures parts c.in_ok-some_item.ensures.passes)
    (behind _ _ (Some wrong) (most_as _ _ 4 _ _ None c.row_of_item-5.ensures parts c.in_ok-at_most.ensures.passes)
    (subst (λ (l : List Data). first_failed (each_item (part_tests c.args.zone) 1 l) ≡ Some wrong) parts (c.in_err-parts.ensures.refused some)))))) in
    rw (told.1, told.2) fact

pub returns-clause-passes : goal.returns-clause-passes
unfolding zone_tests
returns-clause-passes c =
    let same : table_view c.in_ok-table.table.now ≡ table_of (view c.args.value.now) = sym (ap (λ (o : Option Members). unwrap_or o no_members) c.in_ok-table.ensures.ok) in
    let parts : map view c.in_ok-values.values.now ≡ list_under part_key (table_of (view c.args.value.now)) = sym (ap (λ (o : Option (List Data)). unwrap_or o []) (subst (λ (m : Members). said (codes "part") list_of m ≡ Some (map view c.in_ok-values.values.now)) same c.in_ok-values.ensures.ok)) in
    behind _ _ None (right_as _ _ _ None c.row_of_item.ensures c.in_ok-table.ensures.passes)
    (behind _ _ None (needed_as _ _ (codes "at") place _ _ None c.row_of_item-2.ensures same c.in_ok-centre.ensures.passes)
    (behind _ _ None (needed_as _ _ (codes "part") list_of _ _ None c.row_of_item-3.ensures same c.in_ok-values.ensures.passes)
    (behind _ _ None (some_as _ _ _ _ None c.row_of_item-4.ensures parts c.in_ok-some_item.ensures.passes)
    (behind _ _ None (most_as _ _ 4 _ _ None c.row_of_item-5.ensures parts c.in_ok-at_most.ensures.passes)
    (subst (λ (l : List Data). first_failed (each_item (part_tests c.args.zone) 1 l) ≡ None) parts c.in_ok-parts.ensures.passes)))))
