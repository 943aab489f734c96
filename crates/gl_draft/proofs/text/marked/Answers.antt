use Rattle.std.proofs.Common.{refl, rules}
use Rattle.gl_draft.specs.Draft.{unmarked}
use Rattle.gl_draft.proofs.text.marked.Goals as goal

pub returns-in-Ok-clause-refused : goal.returns-in-Ok-clause-refused
returns-in-Ok-clause-refused c = unmarked c.args.lines.now c.requires c.in-Ok._task (search rules) refl
