use Rattle.std.proofs.Common.{refl, rules}
use Rattle.gl_draft.specs.Draft.{differs}
use Rattle.gl_draft.proofs.text.test_filled.Goals as goal

pub returns-then-has_draft-clause-ok : goal.returns-then-has_draft-clause-ok
returns-then-has_draft-clause-ok c = record { task = c.in_ok-task.task; reads = c.in_ok-task.ensures.ok; has = search rules }

pub returns-clause-refused : goal.returns-clause-refused
returns-clause-refused c = differs c.args.lines.now c.requires c.in_ok-task.task c.in_ok-task.ensures.ok (search rules) refl
