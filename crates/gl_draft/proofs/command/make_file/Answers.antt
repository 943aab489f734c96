use Rattle.std.proofs.lemmas.Result.{IfErr-weaker}
use Rattle.gl_draft.specs.Made.{no_text}
use Rattle.gl_draft.proofs.command.make_file.Goals as goal

pub returns-clause-refused : goal.returns-clause-refused
returns-clause-refused g c =
    IfErr-weaker c.make_text.result _ _ (λ why no. no_text c.in_ok-source.source c.in_ok-source.recordings.items c.in_ok-source.ensures.sources no) c.make_text.ensures.refused
