use Rattle.std.proofs.Common.{◌∙◌}
use Rattle.std.proofs.lemmas.Result.{err_from_is_err_and}
use Rattle.toml.specs.View.{table_view}
use Rattle.gl_task_file.specs.Tests.{day_tests, lists_tests, head_tests}
use Rattle.gl_task_file.proofs.TestLemmas.{before_all, behind_all}
use Rattle.gl_task_file.proofs.sections.read_head.Goals as goal

pub returns-in_err-day-clause-refused : goal.returns-in_err-day-clause-refused
unfolding head_tests
returns-in_err-day-clause-refused c =
    let told = err_from_is_err_and c.from_residual.result c.from_residual.ensures.1 in
    rw (told.1, told.2) (λ some. before_all (day_tests (table_view c.args.file.now)) (lists_tests (table_view c.args.file.now)) _ (c.in_err-day.ensures.refused some))

pub returns-in_err-lists-clause-refused : goal.returns-in_err-lists-clause-refused
unfolding head_tests
returns-in_err-lists-clause-refused c =
    let told = err_from_is_err_and c.from_residual-in_err-lists.result c.from_residual-in_err-lists.ensures.1 in
    rw (told.1, told.2) (λ some. behind_all (day_tests (table_view c.args.file.now)) (lists_tests (table_view c.args.file.now)) c.in_ok-day.ensures.passes ∙ c.in_err-lists.ensures.refused)

pub returns-clause-passes : goal.returns-clause-passes
unfolding head_tests
returns-clause-passes c = behind_all (day_tests (table_view c.args.file.now)) (lists_tests (table_view c.args.file.now)) c.in_ok-day.ensures.passes ∙ c.in_ok-lists.ensures.passes
