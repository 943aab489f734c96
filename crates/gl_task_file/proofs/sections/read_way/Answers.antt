use Rattle.std.proofs.Common.{◌∙◌}
use Rattle.std.proofs.lemmas.Result.{err_from_is_err_and}
use Rattle.toml.specs.View.{table_view}
use Rattle.gl_task_file.specs.Tests.{zones_tests, finish_tests, way_tests}
use Rattle.gl_task_file.proofs.TestLemmas.{before_all, behind_all}
use Rattle.gl_task_file.proofs.sections.read_way.Goals as goal

pub returns-in_err-zones-clause-refused : goal.returns-in_err-zones-clause-refused
unfolding way_tests
returns-in_err-zones-clause-refused c =
    let told = err_from_is_err_and c.from_residual.result c.from_residual.ensures.1 in
    rw (told.1, told.2) (λ some. before_all (zones_tests (table_view c.args.file.now)) (finish_tests (table_view c.args.file.now)) _ (c.in_err-zones.ensures.refused some))

pub returns-in_err-finish-clause-refused : goal.returns-in_err-finish-clause-refused
unfolding way_tests
returns-in_err-finish-clause-refused c =
    let told = err_from_is_err_and c.from_residual-in_err-finish.result c.from_residual-in_err-finish.ensures.1 in
    rw (told.1, told.2) (λ some. behind_all (zones_tests (table_view c.args.file.now)) (finish_tests (table_view c.args.file.now)) c.in_ok-zones.ensures.passes ∙ c.in_err-finish.ensures.refused)

pub returns-clause-passes : goal.returns-clause-passes
unfolding way_tests
returns-clause-passes c = behind_all (zones_tests (table_view c.args.file.now)) (finish_tests (table_view c.args.file.now)) c.in_ok-zones.ensures.passes ∙ c.in_ok-finish.ensures.passes
