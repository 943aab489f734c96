use Rattle.std.proofs.Common.{◌≡◌, sym, subst, refl, codes, Option, None, Some}
use Rattle.std.proofs.lemmas.Result.{err_from_is_err_and}
use Rattle.toml.specs.View.{table_view}
use Rattle.gl_task_file.specs.Keys.{said}
use Rattle.gl_task_file.specs.Code.Sections.{kind_word}
use Rattle.gl_task_file.specs.Tests.{day_tests, minimum_test}
use Rattle.gl_task_file.specs.Values.{KindWord, day, kind, whole}
use Rattle.gl_task_file.proofs.TestLemmas.{before, behind, needed_as}
use Rattle.gl_task_file.proofs.sections.read_day.Goals as goal

pub returns-in_err-date-clause-refused : goal.returns-in_err-date-clause-refused
unfolding day_tests
returns-in_err-date-clause-refused c =
    let wrong = c.in_err-date.field-0.0 in
    let told = err_from_is_err_and c.from_residual.result c.from_residual.ensures.1 in
    rw (told.1, told.2) (λ some. before _ _ wrong (needed_as _ _ (codes "date") day (table_view c.args.file.now) (table_view c.args.file.now) (Some wrong) c.row.ensures refl c.in_err-date.ensures.refused))

pub returns-in_err-word-clause-refused : goal.returns-in_err-word-clause-refused
unfolding day_tests
returns-in_err-word-clause-refused c =
    let wrong = c.in_err-word.field-0.0 in
    let told = err_from_is_err_and c.from_residual-in_err-word.result c.from_residual-in_err-word.ensures.1 in
    rw (told.1, told.2) (λ some. behind _ _ (Some wrong) (needed_as _ _ (codes "date") day (table_view c.args.file.now) (table_view c.args.file.now) None c.row.ensures refl c.in_ok-date.ensures.passes)
    (before _ _ wrong (needed_as _ _ (codes "kind") kind (table_view c.args.file.now) (table_view c.args.file.now) (Some wrong) c.row-2.ensures refl c.in_err-word.ensures.refused)))

pub returns-in_err-kind-clause-refused : goal.returns-in_err-kind-clause-refused
unfolding day_tests
returns-in_err-kind-clause-refused c =
    let word : Some (kind_word c.in_ok-word.word) ≡ said (codes "kind") kind (table_view c.args.file.now) = sym c.in_ok-word.ensures.ok in
    let wrong = c.in_err-kind.field-0.0 in
    let told = err_from_is_err_and c.from_residual-in_err-kind.result c.from_residual-in_err-kind.ensures.1 in
    rw (told.1, told.2) (λ some. behind _ _ (Some wrong) (needed_as _ _ (codes "date") day (table_view c.args.file.now) (table_view c.args.file.now) None c.row.ensures refl c.in_ok-date.ensures.passes)
    (behind _ _ (Some wrong) (needed_as _ _ (codes "kind") kind (table_view c.args.file.now) (table_view c.args.file.now) None c.row-2.ensures refl c.in_ok-word.ensures.passes)
    (before _ _ wrong (subst (λ (o : Option KindWord). minimum_test o (table_view c.args.file.now) ≡ Some wrong) word c.in_err-kind.ensures.refused))))

pub returns-in_err-closes-clause-refused : goal.returns-in_err-closes-clause-refused
unfolding day_tests
returns-in_err-closes-clause-refused c =
    let word : Some (kind_word c.in_ok-word.word) ≡ said (codes "kind") kind (table_view c.args.file.now) = sym c.in_ok-word.ensures.ok in
    let wrong = c.in_err-closes.field-0.0 in
    let told = err_from_is_err_and c.from_residual-in_err-closes.result c.from_residual-in_err-closes.ensures.1 in
    rw (told.1, told.2) (λ some. behind _ _ (Some wrong) (needed_as _ _ (codes "date") day (table_view c.args.file.now) (table_view c.args.file.now) None c.row.ensures refl c.in_ok-date.ensures.passes)
    (behind _ _ (Some wrong) (needed_as _ _ (codes "kind") kind (table_view c.args.file.now) (table_view c.args.file.now) None c.row-2.ensures refl c.in_ok-word.ensures.passes)
    (behind _ _ (Some wrong) (subst (λ (o : Option KindWord). minimum_test o (table_view c.args.file.now) ≡ None) word c.in_ok-kind.ensures.passes)
    (before _ _ wrong (needed_as _ _ (codes "closes") (whole 1 100_000) (table_view c.args.file.now) (table_view c.args.file.now) (Some wrong) c.row-3.ensures refl c.in_err-closes.ensures.refused)))))

pub returns-in_err-airspace-clause-refused : goal.returns-in_err-airspace-clause-refused
unfolding day_tests
returns-in_err-airspace-clause-refused c =
    let word : Some (kind_word c.in_ok-word.word) ≡ said (codes "kind") kind (table_view c.args.file.now) = sym c.in_ok-word.ensures.ok in
    let wrong = c.in_err-airspace.field-0.0 in
    let told = err_from_is_err_and c.from_residual-in_err-airspace.result c.from_residual-in_err-airspace.ensures.1 in
    rw (told.1, told.2) (λ some. behind _ _ (Some wrong) (needed_as _ _ (codes "date") day (table_view c.args.file.now) (table_view c.args.file.now) None c.row.ensures refl c.in_ok-date.ensures.passes)
    (behind _ _ (Some wrong) (needed_as _ _ (codes "kind") kind (table_view c.args.file.now) (table_view c.args.file.now) None c.row-2.ensures refl c.in_ok-word.ensures.passes)
    (behind _ _ (Some wrong) (subst (λ (o : Option KindWord). minimum_test o (table_view c.args.file.now) ≡ None) word c.in_ok-kind.ensures.passes)
    (behind _ _ (Some wrong) (needed_as _ _ (codes "closes") (whole 1 100_000) (table_view c.args.file.now) (table_view c.args.file.now) None c.row-3.ensures refl c.in_ok-closes.ensures.passes)
    (before _ _ wrong (c.in_err-airspace.ensures.refused some))))))

pub returns-clause-passes : goal.returns-clause-passes
unfolding day_tests
returns-clause-passes c =
    let word : Some (kind_word c.in_ok-word.word) ≡ said (codes "kind") kind (table_view c.args.file.now) = sym c.in_ok-word.ensures.ok in
    behind _ _ None (needed_as _ _ (codes "date") day (table_view c.args.file.now) (table_view c.args.file.now) None c.row.ensures refl c.in_ok-date.ensures.passes)
    (behind _ _ None (needed_as _ _ (codes "kind") kind (table_view c.args.file.now) (table_view c.args.file.now) None c.row-2.ensures refl c.in_ok-word.ensures.passes)
    (behind _ _ None (subst (λ (o : Option KindWord). minimum_test o (table_view c.args.file.now) ≡ None) word c.in_ok-kind.ensures.passes)
    (behind _ _ None (needed_as _ _ (codes "closes") (whole 1 100_000) (table_view c.args.file.now) (table_view c.args.file.now) None c.row-3.ensures refl c.in_ok-closes.ensures.passes)
    (behind _ _ None c.in_ok-airspace.ensures.passes
    refl))))
