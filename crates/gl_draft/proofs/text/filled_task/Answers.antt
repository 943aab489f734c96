use Rattle.std.proofs.Common.{rules}
use Rattle.gl_task_file.specs.Reading.{IsRefusalOf}
use Rattle.gl_draft.specs.Draft.{refused}
use Rattle.gl_draft.specs.Line.{filled_text}
use Rattle.gl_draft.proofs.text.filled_task.Goals as goal

pub returns-clause-refused : goal.returns-clause-refused
returns-clause-refused c =
    let why : IsRefusalOf (filled_text c.args.lines.now) c.in-Err.wrong = search rules in
    refused c.args.lines.now c.requires c.in-Err.wrong why c.from.ensures
