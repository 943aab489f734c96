use Rattle.std.proofs.lemmas.Result.{IfErr-weaker, IfOk-weaker}
use Rattle.gl_draft.specs.Made.{unsaid}
use Rattle.gl_draft.proofs.command.text_of.Goals as goal

pub returns-clause-ok : goal.returns-clause-ok
returns-clause-ok c =
    IfOk-weaker c.draft_text.result _ _ (λ text is. record { draft = c.in_ok-draft.draft; some = c.requires.some; taken = c.in_ok-draft.ensures.ok; is = is }) c.draft_text.ensures.ok

pub returns-clause-refused : goal.returns-clause-refused
returns-clause-refused c =
    IfErr-weaker c.draft_text.result _ _ (λ why fact. unsaid c.in_ok-draft.draft c.requires.some c.in_ok-draft.ensures.ok fact) c.draft_text.ensures.refused
