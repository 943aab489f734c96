use Rattle.std.proofs.Common.{◌≡◌, ◌∙◌, sym, ap, refl, codes, ℕ, max, Option, None, Some}
use Rattle.std.specs.Prelude.{unwrap_or}
use Rattle.std.proofs.lemmas.Result.{err_from_is_err_and}
use Rattle.toml.specs.View.{table_view}
use Rattle.gl_task_file.specs.Keys.{said}
use Rattle.gl_task_file.specs.Values.{whole}
use Rattle.gl_task_file.proofs.TestLemmas.{before, behind, max_turned, needed_as, needed_with, optional_as}
use Rattle.gl_task_file.proofs.part.read_sector.Goals as goal

pub returns-in_err-inner-clause-refused : goal.returns-in_err-inner-clause-refused
returns-in_err-inner-clause-refused c =
    let wrong = c.in_err-inner.field-0.0 in
    let told = err_from_is_err_and c.from_residual.result c.from_residual.ensures.1 in
    rw (told.1, told.2) (before _ _ wrong (optional_as _ _ (codes "inner") (whole 0 500_000) (table_view c.args.table.now) (table_view c.args.table.now) (Some wrong) c.row_of_part.ensures refl c.in_err-inner.ensures.refused))

pub returns-in_err-outer-clause-refused : goal.returns-in_err-outer-clause-refused
returns-in_err-outer-clause-refused c =
    let low_is : c.max-least.result ≡ max 1 (unwrap_or (said (codes "inner") (whole 0 500_000) (table_view c.args.table.now)) 0) = c.max-least.ensures ∙ max_turned c.unwrap_or-inner.result 1 ∙ ap (max 1) (c.unwrap_or-inner.ensures ∙ ap (λ (o : Option ℕ). unwrap_or o 0) (sym c.in_ok-inner.ensures.ok)) in
    let wrong = c.in_err-outer.field-0.0 in
    let told = err_from_is_err_and c.from_residual-in_err-outer.result c.from_residual-in_err-outer.ensures.1 in
    rw (told.1, told.2) (behind _ _ (Some wrong) (optional_as _ _ (codes "inner") (whole 0 500_000) (table_view c.args.table.now) (table_view c.args.table.now) None c.row_of_part.ensures refl c.in_ok-inner.ensures.passes)
    (before _ _ wrong (needed_with _ _ (codes "outer") (λ (low : ℕ). whole low 500_000) _ _ (table_view c.args.table.now) (table_view c.args.table.now) (Some wrong) c.row_of_part-2.ensures low_is refl c.in_err-outer.ensures.refused)))

pub returns-in_err-from-clause-refused : goal.returns-in_err-from-clause-refused
returns-in_err-from-clause-refused c =
    let low_is : c.max-least.result ≡ max 1 (unwrap_or (said (codes "inner") (whole 0 500_000) (table_view c.args.table.now)) 0) = c.max-least.ensures ∙ max_turned c.unwrap_or-inner.result 1 ∙ ap (max 1) (c.unwrap_or-inner.ensures ∙ ap (λ (o : Option ℕ). unwrap_or o 0) (sym c.in_ok-inner.ensures.ok)) in
    let wrong = c.in_err-from.field-0.0 in
    let told = err_from_is_err_and c.from_residual-in_err-from.result c.from_residual-in_err-from.ensures.1 in
    rw (told.1, told.2) (behind _ _ (Some wrong) (optional_as _ _ (codes "inner") (whole 0 500_000) (table_view c.args.table.now) (table_view c.args.table.now) None c.row_of_part.ensures refl c.in_ok-inner.ensures.passes)
    (behind _ _ (Some wrong) (needed_with _ _ (codes "outer") (λ (low : ℕ). whole low 500_000) _ _ (table_view c.args.table.now) (table_view c.args.table.now) None c.row_of_part-2.ensures low_is refl c.in_ok-outer.ensures.passes)
    (before _ _ wrong (needed_as _ _ (codes "from") (whole 0 359_999) (table_view c.args.table.now) (table_view c.args.table.now) (Some wrong) c.row_of_part-3.ensures refl c.in_err-from.ensures.refused))))

pub returns-in_err-to-clause-refused : goal.returns-in_err-to-clause-refused
returns-in_err-to-clause-refused c =
    let low_is : c.max-least.result ≡ max 1 (unwrap_or (said (codes "inner") (whole 0 500_000) (table_view c.args.table.now)) 0) = c.max-least.ensures ∙ max_turned c.unwrap_or-inner.result 1 ∙ ap (max 1) (c.unwrap_or-inner.ensures ∙ ap (λ (o : Option ℕ). unwrap_or o 0) (sym c.in_ok-inner.ensures.ok)) in
    let wrong = c.in_err-to.field-0.0 in
    let told = err_from_is_err_and c.from_residual-in_err-to.result c.from_residual-in_err-to.ensures.1 in
    rw (told.1, told.2) (behind _ _ (Some wrong) (optional_as _ _ (codes "inner") (whole 0 500_000) (table_view c.args.table.now) (table_view c.args.table.now) None c.row_of_part.ensures refl c.in_ok-inner.ensures.passes)
    (behind _ _ (Some wrong) (needed_with _ _ (codes "outer") (λ (low : ℕ). whole low 500_000) _ _ (table_view c.args.table.now) (table_view c.args.table.now) None c.row_of_part-2.ensures low_is refl c.in_ok-outer.ensures.passes)
    (behind _ _ (Some wrong) (needed_as _ _ (codes "from") (whole 0 359_999) (table_view c.args.table.now) (table_view c.args.table.now) None c.row_of_part-3.ensures refl c.in_ok-from.ensures.passes)
    (before _ _ wrong (needed_as _ _ (codes "to") (whole 0 359_999) (table_view c.args.table.now) (table_view c.args.table.now) (Some wrong) c.row_of_part-4.ensures refl c.in_err-to.ensures.refused)))))

pub returns-clause-passes : goal.returns-clause-passes
returns-clause-passes c =
    let low_is : c.max-least.result ≡ max 1 (unwrap_or (said (codes "inner") (whole 0 500_000) (table_view c.args.table.now)) 0) = c.max-least.ensures ∙ max_turned c.unwrap_or-inner.result 1 ∙ ap (max 1) (c.unwrap_or-inner.ensures ∙ ap (λ (o : Option ℕ). unwrap_or o 0) (sym c.in_ok-inner.ensures.ok)) in
    behind _ _ None (optional_as _ _ (codes "inner") (whole 0 500_000) (table_view c.args.table.now) (table_view c.args.table.now) None c.row_of_part.ensures refl c.in_ok-inner.ensures.passes)
    (behind _ _ None (needed_with _ _ (codes "outer") (λ (low : ℕ). whole low 500_000) _ _ (table_view c.args.table.now) (table_view c.args.table.now) None c.row_of_part-2.ensures low_is refl c.in_ok-outer.ensures.passes)
    (behind _ _ None (needed_as _ _ (codes "from") (whole 0 359_999) (table_view c.args.table.now) (table_view c.args.table.now) None c.row_of_part-3.ensures refl c.in_ok-from.ensures.passes)
    (behind _ _ None (needed_as _ _ (codes "to") (whole 0 359_999) (table_view c.args.table.now) (table_view c.args.table.now) None c.row_of_part-4.ensures refl c.in_ok-to.ensures.passes)
    refl)))
