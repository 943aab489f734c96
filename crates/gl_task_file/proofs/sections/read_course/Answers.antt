use Rattle.std.proofs.Common.{◌∙◌}
use Rattle.std.proofs.lemmas.Result.{err_from_is_err_and}
use Rattle.toml.specs.View.{table_view}
use Rattle.gl_task_file.specs.Tests.{start_tests, way_tests, course_tests}
use Rattle.gl_task_file.proofs.TestLemmas.{before_all, behind_all}
use Rattle.gl_task_file.proofs.sections.read_course.Goals as goal

pub returns-in_err-start-clause-refused : goal.returns-in_err-start-clause-refused
unfolding course_tests
returns-in_err-start-clause-refused c =
    let told = err_from_is_err_and c.from_residual.result c.from_residual.ensures.1 in
    rw (told.1, told.2) (λ some. before_all (start_tests (table_view c.args.file.now)) (way_tests (table_view c.args.file.now)) _ c.in_err-start.ensures.refused)

pub returns-in_err-zones-clause-refused : goal.returns-in_err-zones-clause-refused
unfolding course_tests
returns-in_err-zones-clause-refused c =
    let told = err_from_is_err_and c.from_residual-in_err-zones.result c.from_residual-in_err-zones.ensures.1 in
    rw (told.1, told.2) (λ some. behind_all (start_tests (table_view c.args.file.now)) (way_tests (table_view c.args.file.now)) c.in_ok-start.ensures.passes ∙ (c.in_err-zones.ensures.refused some))

pub returns-clause-passes : goal.returns-clause-passes
unfolding course_tests
returns-clause-passes c = behind_all (start_tests (table_view c.args.file.now)) (way_tests (table_view c.args.file.now)) c.in_ok-start.ensures.passes ∙ c.in_ok-zones.ensures.passes
