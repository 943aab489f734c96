use Rattle.std.proofs.Common.{◌∙◌}
use Rattle.std.proofs.lemmas.Result.{err_from_is_err_and}
use Rattle.toml.specs.View.{table_view}
use Rattle.gl_task_file.specs.Tests.{rules_tests, numbered_tests, people_tests}
use Rattle.gl_task_file.proofs.TestLemmas.{before_all, behind_all}
use Rattle.gl_task_file.proofs.sections.read_people.Goals as goal

pub returns-in_err-rules-clause-refused : goal.returns-in_err-rules-clause-refused
unfolding people_tests
returns-in_err-rules-clause-refused c =
    let told = err_from_is_err_and c.from_residual.result c.from_residual.ensures.1 in
    rw (told.1, told.2) (λ some. before_all (rules_tests (table_view c.args.file.now)) (numbered_tests (table_view c.args.file.now)) _ c.in_err-rules.ensures.refused)

pub returns-in_err-entrants-clause-refused : goal.returns-in_err-entrants-clause-refused
unfolding people_tests
returns-in_err-entrants-clause-refused c =
    let told = err_from_is_err_and c.from_residual-in_err-entrants.result c.from_residual-in_err-entrants.ensures.1 in
    rw (told.1, told.2) (λ some. behind_all (rules_tests (table_view c.args.file.now)) (numbered_tests (table_view c.args.file.now)) c.in_ok-rules.ensures.passes ∙ (c.in_err-entrants.ensures.refused some))

pub returns-clause-passes : goal.returns-clause-passes
unfolding people_tests
returns-clause-passes c = behind_all (rules_tests (table_view c.args.file.now)) (numbered_tests (table_view c.args.file.now)) c.in_ok-rules.ensures.passes ∙ c.in_ok-entrants.ensures.passes
