use Rattle.std.proofs.Common.{rules}
use Rattle.std.proofs.lemmas.Result.{IfOk-weaker}
use Rattle.gl_draft.specs.Draft.{HasTask}
use Rattle.gl_draft.proofs.text.tested_text.Goals as goal

pub returns-clause-ok : goal.returns-clause-ok
returns-clause-ok c =
    let found : HasTask c.args.draft.now c.args.lines.now = search rules in
    IfOk-weaker c.marked.result _ _ (λ text is. record { lines = c.args.lines.now; says = c.requires; spelled = is.0; refused = is.1; tried = found }) c.marked.ensures.ok
