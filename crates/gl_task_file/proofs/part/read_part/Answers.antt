use Rattle.std.proofs.Common.{◌≡◌, ◌∙◌, sym, ap, subst, codes, Option, None, Some}
use Rattle.std.specs.Prelude.{false, is_some, true, unwrap_or}
use Rattle.std.proofs.lemmas.Result.{err_from_is_err_and}
use Rattle.toml.specs.Data.{Members, get_member, no_members}
use Rattle.toml.specs.View.{table_view, view}
use Rattle.gl_task_file.specs.Keys.{first_failed, table_of}
use Rattle.gl_task_file.specs.Table.{has, radius_key}
use Rattle.gl_task_file.specs.Tests.{part_tests, sector_tests}
use Rattle.gl_task_file.specs.Values.{whole}
use Rattle.gl_task_file.proofs.TestLemmas.{before, behind, left_away, not_made, optional_as, right_as}
use Rattle.gl_task_file.proofs.part.read_part.Goals as goal

pub returns-in_err-table-clause-refused : goal.returns-in_err-table-clause-refused
unfolding part_tests
returns-in_err-table-clause-refused c =
    let wrong = c.in_err-table.field-0.0 in
    let told = err_from_is_err_and c.from_residual.result c.from_residual.ensures.1 in
    rw (told.1, told.2) (before _ _ wrong (right_as _ _ _ (Some wrong) c.row_of_part.ensures c.in_err-table.ensures.refused))

pub returns-in_err-radius-clause-refused : goal.returns-in_err-radius-clause-refused
unfolding part_tests
returns-in_err-radius-clause-refused c =
    let same : table_view c.in_ok-table.table.now ≡ table_of (view c.args.value.now) = sym (ap (λ (o : Option Members). unwrap_or o no_members) c.in_ok-table.ensures.ok) in
    let wrong = c.in_err-radius.field-0.0 in
    let told = err_from_is_err_and c.from_residual-in_err-radius.result c.from_residual-in_err-radius.ensures.1 in
    rw (told.1, told.2) (behind _ _ (Some wrong) (right_as _ _ _ None c.row_of_part.ensures c.in_ok-table.ensures.passes)
    (before _ _ wrong (optional_as _ _ (codes "radius") (whole 1 500_000) _ _ (Some wrong) c.row_of_part-2.ensures same c.in_err-radius.ensures.refused)))

pub returns-in_err-read_sector-in-None-clause-refused : goal.returns-in_err-read_sector-in-None-clause-refused
unfolding part_tests
returns-in_err-read_sector-in-None-clause-refused c =
    let same : table_view c.in_ok-table.table.now ≡ table_of (view c.args.value.now) = sym (ap (λ (o : Option Members). unwrap_or o no_members) c.in_ok-table.ensures.ok) in
    let none : has radius_key (table_of (view c.args.value.now)) ≡ false = subst (λ (m : Members). is_some (get_member (codes "radius") m) ≡ false) same (c.in_ok-radius.ensures.there ∙ ap is_some c.in-None.is) in
    let wrong = c.in_err-read_sector-in-None.field-0.0 in
    let told = err_from_is_err_and c.from_residual-in_err-read_sector-in-None.result c.from_residual-in_err-read_sector-in-None.ensures.1 in
    rw (told.1, told.2) (behind _ _ (Some wrong) (right_as _ _ _ None c.row_of_part.ensures c.in_ok-table.ensures.passes)
    (behind _ _ (Some wrong) (optional_as _ _ (codes "radius") (whole 1 500_000) _ _ None c.row_of_part-2.ensures same c.in_ok-radius.ensures.passes)
    (left_away _ _ (Some wrong) none (subst (λ (m : Members). first_failed (sector_tests c.args.zone c.args.part m) ≡ Some wrong) same c.in_err-read_sector-in-None.ensures.refused))))

pub returns-in_ok-read_sector-in-None-clause-passes : goal.returns-in_ok-read_sector-in-None-clause-passes
unfolding part_tests
returns-in_ok-read_sector-in-None-clause-passes c =
    let same : table_view c.in_ok-table.table.now ≡ table_of (view c.args.value.now) = sym (ap (λ (o : Option Members). unwrap_or o no_members) c.in_ok-table.ensures.ok) in
    let none : has radius_key (table_of (view c.args.value.now)) ≡ false = subst (λ (m : Members). is_some (get_member (codes "radius") m) ≡ false) same (c.in_ok-radius.ensures.there ∙ ap is_some c.in-None.is) in
    behind _ _ None (right_as _ _ _ None c.row_of_part.ensures c.in_ok-table.ensures.passes)
    (behind _ _ None (optional_as _ _ (codes "radius") (whole 1 500_000) _ _ None c.row_of_part-2.ensures same c.in_ok-radius.ensures.passes)
    (left_away _ _ None none (subst (λ (m : Members). first_failed (sector_tests c.args.zone c.args.part m) ≡ None) same c.in_ok-read_sector-in-None.ensures.passes)))

pub returns-in-Some-clause-passes : goal.returns-in-Some-clause-passes
unfolding part_tests
returns-in-Some-clause-passes c =
    let same : table_view c.in_ok-table.table.now ≡ table_of (view c.args.value.now) = sym (ap (λ (o : Option Members). unwrap_or o no_members) c.in_ok-table.ensures.ok) in
    let some : has radius_key (table_of (view c.args.value.now)) ≡ true = subst (λ (m : Members). is_some (get_member (codes "radius") m) ≡ true) same (c.in_ok-radius.ensures.there ∙ ap is_some c.in-Some.is) in
    behind _ _ None (right_as _ _ _ None c.row_of_part.ensures c.in_ok-table.ensures.passes)
    (behind _ _ None (optional_as _ _ (codes "radius") (whole 1 500_000) _ _ None c.row_of_part-2.ensures same c.in_ok-radius.ensures.passes)
    (not_made _ _ some))
