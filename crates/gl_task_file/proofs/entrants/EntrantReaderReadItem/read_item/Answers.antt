use Rattle.std.proofs.Common.{◌≡◌, sym, ap, refl, codes, Option, None, Some}
use Rattle.std.specs.Prelude.{unwrap_or}
use Rattle.std.proofs.lemmas.Result.{err_from_is_err_and}
use Rattle.toml.specs.Data.{Members, no_members}
use Rattle.toml.specs.View.{table_view, view}
use Rattle.gl_task_file.specs.Keys.{first_failed, table_of}
use Rattle.gl_task_file.specs.Tests.{entrant_tests}
use Rattle.gl_task_file.specs.Values.{file_name, name, number, whole}
use Rattle.gl_task_file.proofs.TestLemmas.{before, behind, needed_as, right_as}
use Rattle.gl_task_file.proofs.entrants.EntrantReaderReadItem.read_item.Goals as goal

pub returns-in_err-table-clause-refused : goal.returns-in_err-table-clause-refused
unfolding entrant_tests
returns-in_err-table-clause-refused c =
    let wrong = c.in_err-table.field-0.0 in
    let told = err_from_is_err_and c.from_residual.result c.from_residual.ensures.1 in
    let fact : first_failed (entrant_tests c.args.n (view c.args.value.now)) ≡ Some wrong = before _ _ wrong (right_as _ _ _ (Some wrong) c.row_of_item.ensures c.in_err-table.ensures.refused) in
    rw (told.1, told.2) (λ some. fact)

pub returns-in_err-number-clause-refused : goal.returns-in_err-number-clause-refused
unfolding entrant_tests
returns-in_err-number-clause-refused c =
    let same : table_view c.in_ok-table.table.now ≡ table_of (view c.args.value.now) = sym (ap (λ (o : Option Members). unwrap_or o no_members) c.in_ok-table.ensures.ok) in
    let wrong = c.in_err-number.field-0.0 in
    let told = err_from_is_err_and c.from_residual-in_err-number.result c.from_residual-in_err-number.ensures.1 in
    let fact : first_failed (entrant_tests c.args.n (view c.args.value.now)) ≡ Some wrong = behind _ _ (Some wrong) (right_as _ _ _ None c.row_of_item.ensures c.in_ok-table.ensures.passes)
    (before _ _ wrong (needed_as _ _ (codes "number") number _ _ (Some wrong) c.row_of_item-2.ensures same c.in_err-number.ensures.refused)) in
    rw (told.1, told.2) (λ some. fact)

pub returns-in_err-name-clause-refused : goal.returns-in_err-name-clause-refused
unfolding entrant_tests
returns-in_err-name-clause-refused c =
    let same : table_view c.in_ok-table.table.now ≡ table_of (view c.args.value.now) = sym (ap (λ (o : Option Members). unwrap_or o no_members) c.in_ok-table.ensures.ok) in
    let wrong = c.in_err-name.field-0.0 in
    let told = err_from_is_err_and c.from_residual-in_err-name.result c.from_residual-in_err-name.ensures.1 in
    let fact : first_failed (entrant_tests c.args.n (view c.args.value.now)) ≡ Some wrong = behind _ _ (Some wrong) (right_as _ _ _ None c.row_of_item.ensures c.in_ok-table.ensures.passes)
    (behind _ _ (Some wrong) (needed_as _ _ (codes "number") number _ _ None c.row_of_item-2.ensures same c.in_ok-number.ensures.passes)
    (before _ _ wrong (needed_as _ _ (codes "name") name _ _ (Some wrong) c.row_of_item-3.ensures same c.in_err-name.ensures.refused))) in
    rw (told.1, told.2) (λ some. fact)

pub returns-in_err-handicap-clause-refused : goal.returns-in_err-handicap-clause-refused
unfolding entrant_tests
returns-in_err-handicap-clause-refused c =
    let same : table_view c.in_ok-table.table.now ≡ table_of (view c.args.value.now) = sym (ap (λ (o : Option Members). unwrap_or o no_members) c.in_ok-table.ensures.ok) in
    let wrong = c.in_err-handicap.field-0.0 in
    let told = err_from_is_err_and c.from_residual-in_err-handicap.result c.from_residual-in_err-handicap.ensures.1 in
    let fact : first_failed (entrant_tests c.args.n (view c.args.value.now)) ≡ Some wrong = behind _ _ (Some wrong) (right_as _ _ _ None c.row_of_item.ensures c.in_ok-table.ensures.passes)
    (behind _ _ (Some wrong) (needed_as _ _ (codes "number") number _ _ None c.row_of_item-2.ensures same c.in_ok-number.ensures.passes)
    (behind _ _ (Some wrong) (needed_as _ _ (codes "name") name _ _ None c.row_of_item-3.ensures same c.in_ok-name.ensures.passes)
    (before _ _ wrong (needed_as _ _ (codes "handicap") (whole 1 2_000) _ _ (Some wrong) c.row_of_item-4.ensures same c.in_err-handicap.ensures.refused)))) in
    rw (told.1, told.2) (λ some. fact)

pub returns-in_err-file-clause-refused : goal.returns-in_err-file-clause-refused
unfolding entrant_tests
returns-in_err-file-clause-refused c =
    let same : table_view c.in_ok-table.table.now ≡ table_of (view c.args.value.now) = sym (ap (λ (o : Option Members). unwrap_or o no_members) c.in_ok-table.ensures.ok) in
    let wrong = c.in_err-file.field-0.0 in
    let told = err_from_is_err_and c.from_residual-in_err-file.result c.from_residual-in_err-file.ensures.1 in
    let fact : first_failed (entrant_tests c.args.n (view c.args.value.now)) ≡ Some wrong = behind _ _ (Some wrong) (right_as _ _ _ None c.row_of_item.ensures c.in_ok-table.ensures.passes)
    (behind _ _ (Some wrong) (needed_as _ _ (codes "number") number _ _ None c.row_of_item-2.ensures same c.in_ok-number.ensures.passes)
    (behind _ _ (Some wrong) (needed_as _ _ (codes "name") name _ _ None c.row_of_item-3.ensures same c.in_ok-name.ensures.passes)
    (behind _ _ (Some wrong) (needed_as _ _ (codes "handicap") (whole 1 2_000) _ _ None c.row_of_item-4.ensures same c.in_ok-handicap.ensures.passes)
    (before _ _ wrong (needed_as _ _ (codes "file") file_name _ _ (Some wrong) c.row_of_item-5.ensures same c.in_err-file.ensures.refused))))) in
    rw (told.1, told.2) (λ some. fact)

pub returns-clause-passes : goal.returns-clause-passes
unfolding entrant_tests
returns-clause-passes c =
    let same : table_view c.in_ok-table.table.now ≡ table_of (view c.args.value.now) = sym (ap (λ (o : Option Members). unwrap_or o no_members) c.in_ok-table.ensures.ok) in
    behind _ _ None (right_as _ _ _ None c.row_of_item.ensures c.in_ok-table.ensures.passes)
    (behind _ _ None (needed_as _ _ (codes "number") number _ _ None c.row_of_item-2.ensures same c.in_ok-number.ensures.passes)
    (behind _ _ None (needed_as _ _ (codes "name") name _ _ None c.row_of_item-3.ensures same c.in_ok-name.ensures.passes)
    (behind _ _ None (needed_as _ _ (codes "handicap") (whole 1 2_000) _ _ None c.row_of_item-4.ensures same c.in_ok-handicap.ensures.passes)
    (behind _ _ None (needed_as _ _ (codes "file") file_name _ _ None c.row_of_item-5.ensures same c.in_ok-file.ensures.passes)
    refl))))
