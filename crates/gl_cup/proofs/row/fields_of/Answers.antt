use Rattle.std.proofs.Common.{◌∙◌, sym}
use Rattle.gl_cup.proofs.RowLemmas.{field-end, field-more}
use Rattle.gl_cup.proofs.row.fields_of.Goals as goal

pub fields-preserved : goal.fields-preserved
fields-preserved c =
    let more = field-more _ _ _ (sym c.in-Some.ensures.value) in
    cc (c.in_ok-push.ensures.items, c.in_ok-from_slice.ensures, c.fields.invariant, more)

pub returns : goal.returns
returns c = c.fields.invariant ∙ field-end _ _ (sym c.in_default.ensures.value)
