use Rattle.std.proofs.Common.{◌∙◌, [], ◌∷◌}
use Rattle.std.proofs.lemmas.Result.{IfOk-weaker}
use Rattle.gl_series.proofs.text.team_record.Goals as goal

pub returns : goal.returns
returns c =
    let rank = c.deref.ensures.value ∙ c.in_ok-rank.ensures in
    let team = c.as_bytes.ensures.value ∙ c.as_str.ensures in
    let total = c.deref-2.ensures.value ∙ c.in_ok-total.ensures in
    IfOk-weaker c.from_fields.result _ _ (λ columns are. are ∙ (λ i. rank i ∷ team i ∷ total i ∷ [])) c.from_fields.ensures.fields
