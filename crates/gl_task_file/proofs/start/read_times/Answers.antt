use Rattle.std.proofs.Common.{◌≡◌, sym, ap, refl, codes, ℕ, Option, None, Some}
use Rattle.std.specs.Prelude.{unwrap_or}
use Rattle.std.proofs.lemmas.Result.{err_from_is_err_and}
use Rattle.toml.specs.View.{table_view}
use Rattle.gl_task_file.specs.Keys.{said}
use Rattle.gl_task_file.specs.Tests.{time_tests}
use Rattle.gl_task_file.specs.Values.{whole}
use Rattle.gl_task_file.proofs.TestLemmas.{before, behind, needed_as, needed_with}
use Rattle.gl_task_file.proofs.start.read_times.Goals as goal

pub returns-in_err-opens-clause-refused : goal.returns-in_err-opens-clause-refused
unfolding time_tests
returns-in_err-opens-clause-refused c =
    let wrong = c.in_err-opens.field-0.0 in
    let told = err_from_is_err_and c.from_residual.result c.from_residual.ensures.1 in
    rw (told.1, told.2) (before _ _ wrong (needed_as _ _ (codes "open") (whole 0 100_000) (table_view c.args.table.now) (table_view c.args.table.now) (Some wrong) c.row.ensures refl c.in_err-opens.ensures.refused))

pub returns-in_err-close-clause-refused : goal.returns-in_err-close-clause-refused
unfolding time_tests
returns-in_err-close-clause-refused c =
    let low_is : c.in_ok-opens.opens ≡ unwrap_or (said (codes "open") (whole 0 100_000) (table_view c.args.table.now)) 0 = sym (ap (λ (o : Option ℕ). unwrap_or o 0) c.in_ok-opens.ensures.ok) in
    let wrong = c.in_err-close.field-0.0 in
    let told = err_from_is_err_and c.from_residual-in_err-close.result c.from_residual-in_err-close.ensures.1 in
    rw (told.1, told.2) (behind _ _ (Some wrong) (needed_as _ _ (codes "open") (whole 0 100_000) (table_view c.args.table.now) (table_view c.args.table.now) None c.row.ensures refl c.in_ok-opens.ensures.passes)
    (before _ _ wrong (needed_with _ _ (codes "close") (λ (low : ℕ). whole low 100_000) _ _ (table_view c.args.table.now) (table_view c.args.table.now) (Some wrong) c.row-2.ensures low_is refl c.in_err-close.ensures.refused)))

pub returns-in_err-pilot-clause-refused : goal.returns-in_err-pilot-clause-refused
unfolding time_tests
returns-in_err-pilot-clause-refused c =
    let low_is : c.in_ok-opens.opens ≡ unwrap_or (said (codes "open") (whole 0 100_000) (table_view c.args.table.now)) 0 = sym (ap (λ (o : Option ℕ). unwrap_or o 0) c.in_ok-opens.ensures.ok) in
    let wrong = c.in_err-pilot.field-0.0 in
    let told = err_from_is_err_and c.from_residual-in_err-pilot.result c.from_residual-in_err-pilot.ensures.1 in
    rw (told.1, told.2) (behind _ _ (Some wrong) (needed_as _ _ (codes "open") (whole 0 100_000) (table_view c.args.table.now) (table_view c.args.table.now) None c.row.ensures refl c.in_ok-opens.ensures.passes)
    (behind _ _ (Some wrong) (needed_with _ _ (codes "close") (λ (low : ℕ). whole low 100_000) _ _ (table_view c.args.table.now) (table_view c.args.table.now) None c.row-2.ensures low_is refl c.in_ok-close.ensures.passes)
    c.in_err-pilot.ensures.refused))

pub returns-clause-passes : goal.returns-clause-passes
unfolding time_tests
returns-clause-passes c =
    let low_is : c.in_ok-opens.opens ≡ unwrap_or (said (codes "open") (whole 0 100_000) (table_view c.args.table.now)) 0 = sym (ap (λ (o : Option ℕ). unwrap_or o 0) c.in_ok-opens.ensures.ok) in
    behind _ _ None (needed_as _ _ (codes "open") (whole 0 100_000) (table_view c.args.table.now) (table_view c.args.table.now) None c.row.ensures refl c.in_ok-opens.ensures.passes)
    (behind _ _ None (needed_with _ _ (codes "close") (λ (low : ℕ). whole low 100_000) _ _ (table_view c.args.table.now) (table_view c.args.table.now) None c.row-2.ensures low_is refl c.in_ok-close.ensures.passes)
    c.in_ok-pilot.ensures.passes)
