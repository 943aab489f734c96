use Rattle.std.proofs.Common.{◌≡◌, sym, ap, subst, refl, codes, Option, None, Some}
use Rattle.std.specs.Prelude.{unwrap_or}
use Rattle.std.proofs.lemmas.Result.{err_from_is_err_and}
use Rattle.toml.specs.Data.{Members, as_table, no_members}
use Rattle.toml.specs.View.{table_view}
use Rattle.gl_task_file.specs.Keys.{first_failed, said}
use Rattle.gl_task_file.specs.Places.{place, place_away_from}
use Rattle.gl_task_file.specs.Table.{start_key, table_under}
use Rattle.gl_task_file.specs.Tests.{start_tests, time_tests}
use Rattle.gl_task_file.specs.Values.{whole}
use Rattle.gl_task_file.proofs.TestLemmas.{before, behind, needed_as, needed_with}
use Rattle.gl_task_file.proofs.start.read_start.Goals as goal

pub returns-in_err-table-clause-refused : goal.returns-in_err-table-clause-refused
unfolding start_tests
returns-in_err-table-clause-refused c =
    let wrong = c.in_err-table.field-0.0 in
    let told = err_from_is_err_and c.from_residual.result c.from_residual.ensures.1 in
    rw (told.1, told.2) (before _ _ wrong (needed_as _ _ (codes "start") as_table (table_view c.args.file.now) (table_view c.args.file.now) (Some wrong) c.row.ensures refl c.in_err-table.ensures.refused))

pub returns-in_err-at-clause-refused : goal.returns-in_err-at-clause-refused
unfolding start_tests
returns-in_err-at-clause-refused c =
    let same : table_view c.in_ok-table.table.now ≡ table_under start_key (table_view c.args.file.now) = sym (ap (λ (o : Option Members). unwrap_or o no_members) c.in_ok-table.ensures.ok) in
    let wrong = c.in_err-at.field-0.0 in
    let told = err_from_is_err_and c.from_residual-in_err-at.result c.from_residual-in_err-at.ensures.1 in
    rw (told.1, told.2) (behind _ _ (Some wrong) (needed_as _ _ (codes "start") as_table (table_view c.args.file.now) (table_view c.args.file.now) None c.row.ensures refl c.in_ok-table.ensures.passes)
    (before _ _ wrong (needed_as _ _ (codes "at") place _ _ (Some wrong) c.row-2.ensures same c.in_err-at.ensures.refused)))

pub returns-in_err-towards-clause-refused : goal.returns-in_err-towards-clause-refused
unfolding start_tests
returns-in_err-towards-clause-refused c =
    let same : table_view c.in_ok-table.table.now ≡ table_under start_key (table_view c.args.file.now) = sym (ap (λ (o : Option Members). unwrap_or o no_members) c.in_ok-table.ensures.ok) in
    let place_is : Some c.in_ok-at.at ≡ said (codes "at") place (table_under start_key (table_view c.args.file.now)) = sym (subst (λ (m : Members). said (codes "at") place m ≡ Some c.in_ok-at.at) same c.in_ok-at.ensures.ok) in
    let wrong = c.in_err-towards.field-0.0 in
    let told = err_from_is_err_and c.from_residual-in_err-towards.result c.from_residual-in_err-towards.ensures.1 in
    rw (told.1, told.2) (behind _ _ (Some wrong) (needed_as _ _ (codes "start") as_table (table_view c.args.file.now) (table_view c.args.file.now) None c.row.ensures refl c.in_ok-table.ensures.passes)
    (behind _ _ (Some wrong) (needed_as _ _ (codes "at") place _ _ None c.row-2.ensures same c.in_ok-at.ensures.passes)
    (before _ _ wrong (needed_with _ _ (codes "towards") place_away_from _ _ _ _ (Some wrong) c.row-3.ensures place_is same c.in_err-towards.ensures.refused))))

pub returns-in_err-half-clause-refused : goal.returns-in_err-half-clause-refused
unfolding start_tests
returns-in_err-half-clause-refused c =
    let same : table_view c.in_ok-table.table.now ≡ table_under start_key (table_view c.args.file.now) = sym (ap (λ (o : Option Members). unwrap_or o no_members) c.in_ok-table.ensures.ok) in
    let place_is : Some c.in_ok-at.at ≡ said (codes "at") place (table_under start_key (table_view c.args.file.now)) = sym (subst (λ (m : Members). said (codes "at") place m ≡ Some c.in_ok-at.at) same c.in_ok-at.ensures.ok) in
    let wrong = c.in_err-half.field-0.0 in
    let told = err_from_is_err_and c.from_residual-in_err-half.result c.from_residual-in_err-half.ensures.1 in
    rw (told.1, told.2) (behind _ _ (Some wrong) (needed_as _ _ (codes "start") as_table (table_view c.args.file.now) (table_view c.args.file.now) None c.row.ensures refl c.in_ok-table.ensures.passes)
    (behind _ _ (Some wrong) (needed_as _ _ (codes "at") place _ _ None c.row-2.ensures same c.in_ok-at.ensures.passes)
    (behind _ _ (Some wrong) (needed_with _ _ (codes "towards") place_away_from _ _ _ _ None c.row-3.ensures place_is same c.in_ok-towards.ensures.passes)
    (before _ _ wrong (needed_as _ _ (codes "half") (whole 1 500_000) _ _ (Some wrong) c.row-4.ensures same c.in_err-half.ensures.refused)))))

pub returns-in_err-opens-clause-refused : goal.returns-in_err-opens-clause-refused
unfolding start_tests
returns-in_err-opens-clause-refused c =
    let same : table_view c.in_ok-table.table.now ≡ table_under start_key (table_view c.args.file.now) = sym (ap (λ (o : Option Members). unwrap_or o no_members) c.in_ok-table.ensures.ok) in
    let place_is : Some c.in_ok-at.at ≡ said (codes "at") place (table_under start_key (table_view c.args.file.now)) = sym (subst (λ (m : Members). said (codes "at") place m ≡ Some c.in_ok-at.at) same c.in_ok-at.ensures.ok) in
    let wrong = c.in_err-opens.field-0.0 in
    let told = err_from_is_err_and c.from_residual-in_err-opens.result c.from_residual-in_err-opens.ensures.1 in
    rw (told.1, told.2) (behind _ _ (Some wrong) (needed_as _ _ (codes "start") as_table (table_view c.args.file.now) (table_view c.args.file.now) None c.row.ensures refl c.in_ok-table.ensures.passes)
    (behind _ _ (Some wrong) (needed_as _ _ (codes "at") place _ _ None c.row-2.ensures same c.in_ok-at.ensures.passes)
    (behind _ _ (Some wrong) (needed_with _ _ (codes "towards") place_away_from _ _ _ _ None c.row-3.ensures place_is same c.in_ok-towards.ensures.passes)
    (behind _ _ (Some wrong) (needed_as _ _ (codes "half") (whole 1 500_000) _ _ None c.row-4.ensures same c.in_ok-half.ensures.passes)
    (subst (λ (m : Members). first_failed (time_tests m) ≡ Some wrong) same c.in_err-opens.ensures.refused)))))

pub returns-clause-passes : goal.returns-clause-passes
unfolding start_tests
returns-clause-passes c =
    let same : table_view c.in_ok-table.table.now ≡ table_under start_key (table_view c.args.file.now) = sym (ap (λ (o : Option Members). unwrap_or o no_members) c.in_ok-table.ensures.ok) in
    let place_is : Some c.in_ok-at.at ≡ said (codes "at") place (table_under start_key (table_view c.args.file.now)) = sym (subst (λ (m : Members). said (codes "at") place m ≡ Some c.in_ok-at.at) same c.in_ok-at.ensures.ok) in
    behind _ _ None (needed_as _ _ (codes "start") as_table (table_view c.args.file.now) (table_view c.args.file.now) None c.row.ensures refl c.in_ok-table.ensures.passes)
    (behind _ _ None (needed_as _ _ (codes "at") place _ _ None c.row-2.ensures same c.in_ok-at.ensures.passes)
    (behind _ _ None (needed_with _ _ (codes "towards") place_away_from _ _ _ _ None c.row-3.ensures place_is same c.in_ok-towards.ensures.passes)
    (behind _ _ None (needed_as _ _ (codes "half") (whole 1 500_000) _ _ None c.row-4.ensures same c.in_ok-half.ensures.passes)
    (subst (λ (m : Members). first_failed (time_tests m) ≡ None) same c.in_ok-opens.ensures.passes))))
