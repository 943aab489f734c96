use Rattle.std.proofs.Common.{◌≡◌, refl, subst, codes, None, Some}
use Rattle.gl_task.specs.declared.key.Key.{Key}
use Rattle.toml.specs.View.{table_view}
use Rattle.gl_task_file.specs.Keys.{optional}
use Rattle.gl_task_file.specs.Values.{whole}
use Rattle.std.proofs.lemmas.Result.{err_from_is_err_and}
use Rattle.gl_task_file.proofs.TestLemmas.{before, behind}
use Rattle.gl_task_file.proofs.rules.read_rule_table.Goals as goal

pub returns-clause-passes : goal.returns-clause-passes
returns-clause-passes c =
    let table = table_view c.args.table.now in
    behind _ _ None (subst (λ (k : Key). optional k (codes "ceiling") (whole 0 32_767) table ≡ None) c.row.ensures c.in_ok-ceiling.ensures.passes)
    (behind _ _ None (subst (λ (k : Key). optional k (codes "engine_level") (whole 0 999) table ≡ None) c.row-2.ensures c.in_ok-level.ensures.passes)
    (behind _ _ None (subst (λ (k : Key). optional k (codes "engine_points") (whole 0 1_000) table ≡ None) c.row-3.ensures c.in_ok-points.ensures.passes)
    (behind _ _ None (subst (λ (k : Key). optional k (codes "loss") (whole 0 32_767) table ≡ None) c.row-4.ensures c.in_ok-loss.ensures.passes)
    (behind _ _ None (subst (λ (k : Key). optional k (codes "closing") (whole 0 500_000) table ≡ None) c.row-5.ensures c.in_ok-closing.ensures.passes) refl))))

pub returns-in_err-ceiling-clause-refused : goal.returns-in_err-ceiling-clause-refused
returns-in_err-ceiling-clause-refused c =
    let table = table_view c.args.table.now in
    let wrong = c.in_err-ceiling.field-0.0 in
    let told = err_from_is_err_and c.from_residual.result c.from_residual.ensures.1 in
    rw (told.1, told.2) (before _ _ wrong (subst (λ (k : Key). optional k (codes "ceiling") (whole 0 32_767) table ≡ Some wrong) c.row.ensures c.in_err-ceiling.ensures.refused))

pub returns-in_err-level-clause-refused : goal.returns-in_err-level-clause-refused
returns-in_err-level-clause-refused c =
    let table = table_view c.args.table.now in
    let wrong = c.in_err-level.field-0.0 in
    let told = err_from_is_err_and c.from_residual-in_err-level.result c.from_residual-in_err-level.ensures.1 in
    rw (told.1, told.2) (behind _ _ (Some wrong) (subst (λ (k : Key). optional k (codes "ceiling") (whole 0 32_767) table ≡ None) c.row.ensures c.in_ok-ceiling.ensures.passes)
    (before _ _ wrong (subst (λ (k : Key). optional k (codes "engine_level") (whole 0 999) table ≡ Some wrong) c.row-2.ensures c.in_err-level.ensures.refused)))

pub returns-in_err-points-clause-refused : goal.returns-in_err-points-clause-refused
returns-in_err-points-clause-refused c =
    let table = table_view c.args.table.now in
    let wrong = c.in_err-points.field-0.0 in
    let told = err_from_is_err_and c.from_residual-in_err-points.result c.from_residual-in_err-points.ensures.1 in
    rw (told.1, told.2) (behind _ _ (Some wrong) (subst (λ (k : Key). optional k (codes "ceiling") (whole 0 32_767) table ≡ None) c.row.ensures c.in_ok-ceiling.ensures.passes)
    (behind _ _ (Some wrong) (subst (λ (k : Key). optional k (codes "engine_level") (whole 0 999) table ≡ None) c.row-2.ensures c.in_ok-level.ensures.passes)
    (before _ _ wrong (subst (λ (k : Key). optional k (codes "engine_points") (whole 0 1_000) table ≡ Some wrong) c.row-3.ensures c.in_err-points.ensures.refused))))

pub returns-in_err-loss-clause-refused : goal.returns-in_err-loss-clause-refused
returns-in_err-loss-clause-refused c =
    let table = table_view c.args.table.now in
    let wrong = c.in_err-loss.field-0.0 in
    let told = err_from_is_err_and c.from_residual-in_err-loss.result c.from_residual-in_err-loss.ensures.1 in
    rw (told.1, told.2) (behind _ _ (Some wrong) (subst (λ (k : Key). optional k (codes "ceiling") (whole 0 32_767) table ≡ None) c.row.ensures c.in_ok-ceiling.ensures.passes)
    (behind _ _ (Some wrong) (subst (λ (k : Key). optional k (codes "engine_level") (whole 0 999) table ≡ None) c.row-2.ensures c.in_ok-level.ensures.passes)
    (behind _ _ (Some wrong) (subst (λ (k : Key). optional k (codes "engine_points") (whole 0 1_000) table ≡ None) c.row-3.ensures c.in_ok-points.ensures.passes)
    (before _ _ wrong (subst (λ (k : Key). optional k (codes "loss") (whole 0 32_767) table ≡ Some wrong) c.row-4.ensures c.in_err-loss.ensures.refused)))))

pub returns-in_err-closing-clause-refused : goal.returns-in_err-closing-clause-refused
returns-in_err-closing-clause-refused c =
    let table = table_view c.args.table.now in
    let wrong = c.in_err-closing.field-0.0 in
    let told = err_from_is_err_and c.from_residual-in_err-closing.result c.from_residual-in_err-closing.ensures.1 in
    rw (told.1, told.2) (behind _ _ (Some wrong) (subst (λ (k : Key). optional k (codes "ceiling") (whole 0 32_767) table ≡ None) c.row.ensures c.in_ok-ceiling.ensures.passes)
    (behind _ _ (Some wrong) (subst (λ (k : Key). optional k (codes "engine_level") (whole 0 999) table ≡ None) c.row-2.ensures c.in_ok-level.ensures.passes)
    (behind _ _ (Some wrong) (subst (λ (k : Key). optional k (codes "engine_points") (whole 0 1_000) table ≡ None) c.row-3.ensures c.in_ok-points.ensures.passes)
    (behind _ _ (Some wrong) (subst (λ (k : Key). optional k (codes "loss") (whole 0 32_767) table ≡ None) c.row-4.ensures c.in_ok-loss.ensures.passes)
    (before _ _ wrong (subst (λ (k : Key). optional k (codes "closing") (whole 0 500_000) table ≡ Some wrong) c.row-5.ensures c.in_err-closing.ensures.refused))))))
