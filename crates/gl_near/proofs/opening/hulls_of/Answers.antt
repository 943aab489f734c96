use Rattle.std.proofs.Common.{◌∙◌, ap, map, slice_get}
use Rattle.std.proofs.lemmas.Result.{IfOk-weaker}
use Rattle.gl_near.proofs.Numbers.{same_values}
use Rattle.gl_near.proofs.opening.hulls_of.Goals as goal

pub returns : goal.returns
returns c =
    let fixes = c.args.fixes.now in
    IfOk-weaker c.new.result _ _ (λ hulls is. same_values hulls fixes (is ∙ ap (map (slice_get fixes)) c.as_slice.ensures.value ∙ c.in_ok-numbers.ensures.named)) c.new.ensures
