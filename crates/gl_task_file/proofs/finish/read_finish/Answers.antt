use Rattle.std.proofs.Common.{◌≡◌, ◌∙◌, sym, ap, subst, refl, codes, Option, None, Some}
use Rattle.std.specs.Prelude.{false, is_some, true, unwrap_or}
use Rattle.std.proofs.lemmas.Result.{err_from_is_err_and}
use Rattle.toml.specs.Data.{Members, as_table, get_member, no_members}
use Rattle.toml.specs.View.{table_view}
use Rattle.gl_task_file.specs.Places.{place}
use Rattle.gl_task_file.specs.Keys.{first_failed}
use Rattle.gl_task_file.specs.Table.{finish_key, has, ring_key, table_under}
use Rattle.gl_task_file.specs.Tests.{finish_tests, gate_tests}
use Rattle.gl_task_file.specs.Values.{whole}
use Rattle.gl_task_file.proofs.TestLemmas.{before, behind, left_away, not_made, needed_as, optional_as}
use Rattle.gl_task_file.proofs.finish.read_finish.Goals as goal

pub returns-in_err-table-clause-refused : goal.returns-in_err-table-clause-refused
unfolding finish_tests
returns-in_err-table-clause-refused c =
    let wrong = c.in_err-table.field-0.0 in
    let told = err_from_is_err_and c.from_residual.result c.from_residual.ensures.1 in
    rw (told.1, told.2) (before _ _ wrong (needed_as _ _ (codes "finish") as_table (table_view c.args.file.now) (table_view c.args.file.now) (Some wrong) c.row.ensures refl c.in_err-table.ensures.refused))

pub returns-in_err-at-clause-refused : goal.returns-in_err-at-clause-refused
unfolding finish_tests
returns-in_err-at-clause-refused c =
    let same : table_view c.in_ok-table.table.now ≡ table_under finish_key (table_view c.args.file.now) = sym (ap (λ (o : Option Members). unwrap_or o no_members) c.in_ok-table.ensures.ok) in
    let wrong = c.in_err-at.field-0.0 in
    let told = err_from_is_err_and c.from_residual-in_err-at.result c.from_residual-in_err-at.ensures.1 in
    rw (told.1, told.2) (behind _ _ (Some wrong) (needed_as _ _ (codes "finish") as_table (table_view c.args.file.now) (table_view c.args.file.now) None c.row.ensures refl c.in_ok-table.ensures.passes)
    (before _ _ wrong (needed_as _ _ (codes "at") place _ _ (Some wrong) c.row-2.ensures same c.in_err-at.ensures.refused)))

pub returns-in_err-radius-clause-refused : goal.returns-in_err-radius-clause-refused
unfolding finish_tests
returns-in_err-radius-clause-refused c =
    let same : table_view c.in_ok-table.table.now ≡ table_under finish_key (table_view c.args.file.now) = sym (ap (λ (o : Option Members). unwrap_or o no_members) c.in_ok-table.ensures.ok) in
    let wrong = c.in_err-radius.field-0.0 in
    let told = err_from_is_err_and c.from_residual-in_err-radius.result c.from_residual-in_err-radius.ensures.1 in
    rw (told.1, told.2) (behind _ _ (Some wrong) (needed_as _ _ (codes "finish") as_table (table_view c.args.file.now) (table_view c.args.file.now) None c.row.ensures refl c.in_ok-table.ensures.passes)
    (behind _ _ (Some wrong) (needed_as _ _ (codes "at") place _ _ None c.row-2.ensures same c.in_ok-at.ensures.passes)
    (before _ _ wrong (optional_as _ _ (codes "ring") (whole 1 500_000) _ _ (Some wrong) c.row-3.ensures same c.in_err-radius.ensures.refused))))

pub returns-in_err-read_gate-in-None-clause-refused : goal.returns-in_err-read_gate-in-None-clause-refused
unfolding finish_tests
returns-in_err-read_gate-in-None-clause-refused c =
    let same : table_view c.in_ok-table.table.now ≡ table_under finish_key (table_view c.args.file.now) = sym (ap (λ (o : Option Members). unwrap_or o no_members) c.in_ok-table.ensures.ok) in
    let none : has ring_key (table_under finish_key (table_view c.args.file.now)) ≡ false = subst (λ (m : Members). is_some (get_member (codes "ring") m) ≡ false) same (c.in_ok-radius.ensures.there ∙ ap is_some c.in-None.is) in
    let wrong = c.in_err-read_gate-in-None.field-0.0 in
    let told = err_from_is_err_and c.from_residual-in_err-read_gate-in-None.result c.from_residual-in_err-read_gate-in-None.ensures.1 in
    rw (told.1, told.2) (behind _ _ (Some wrong) (needed_as _ _ (codes "finish") as_table (table_view c.args.file.now) (table_view c.args.file.now) None c.row.ensures refl c.in_ok-table.ensures.passes)
    (behind _ _ (Some wrong) (needed_as _ _ (codes "at") place _ _ None c.row-2.ensures same c.in_ok-at.ensures.passes)
    (behind _ _ (Some wrong) (optional_as _ _ (codes "ring") (whole 1 500_000) _ _ None c.row-3.ensures same c.in_ok-radius.ensures.passes)
    (left_away _ _ (Some wrong) none (subst (λ (m : Members). first_failed (gate_tests m) ≡ Some wrong) same c.in_err-read_gate-in-None.ensures.refused)))))

pub returns-in_ok-read_gate-in-None-clause-passes : goal.returns-in_ok-read_gate-in-None-clause-passes
unfolding finish_tests
returns-in_ok-read_gate-in-None-clause-passes c =
    let same : table_view c.in_ok-table.table.now ≡ table_under finish_key (table_view c.args.file.now) = sym (ap (λ (o : Option Members). unwrap_or o no_members) c.in_ok-table.ensures.ok) in
    let none : has ring_key (table_under finish_key (table_view c.args.file.now)) ≡ false = subst (λ (m : Members). is_some (get_member (codes "ring") m) ≡ false) same (c.in_ok-radius.ensures.there ∙ ap is_some c.in-None.is) in
    behind _ _ None (needed_as _ _ (codes "finish") as_table (table_view c.args.file.now) (table_view c.args.file.now) None c.row.ensures refl c.in_ok-table.ensures.passes)
    (behind _ _ None (needed_as _ _ (codes "at") place _ _ None c.row-2.ensures same c.in_ok-at.ensures.passes)
    (behind _ _ None (optional_as _ _ (codes "ring") (whole 1 500_000) _ _ None c.row-3.ensures same c.in_ok-radius.ensures.passes)
    (left_away _ _ None none (subst (λ (m : Members). first_failed (gate_tests m) ≡ None) same c.in_ok-read_gate-in-None.ensures.passes))))

pub returns-in-Some-clause-passes : goal.returns-in-Some-clause-passes
unfolding finish_tests
returns-in-Some-clause-passes c =
    let same : table_view c.in_ok-table.table.now ≡ table_under finish_key (table_view c.args.file.now) = sym (ap (λ (o : Option Members). unwrap_or o no_members) c.in_ok-table.ensures.ok) in
    let some : has ring_key (table_under finish_key (table_view c.args.file.now)) ≡ true = subst (λ (m : Members). is_some (get_member (codes "ring") m) ≡ true) same (c.in_ok-radius.ensures.there ∙ ap is_some c.in-Some.is) in
    behind _ _ None (needed_as _ _ (codes "finish") as_table (table_view c.args.file.now) (table_view c.args.file.now) None c.row.ensures refl c.in_ok-table.ensures.passes)
    (behind _ _ None (needed_as _ _ (codes "at") place _ _ None c.row-2.ensures same c.in_ok-at.ensures.passes)
    (behind _ _ None (optional_as _ _ (codes "ring") (whole 1 500_000) _ _ None c.row-3.ensures same c.in_ok-radius.ensures.passes)
    (not_made _ _ some)))
