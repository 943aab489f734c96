use Rattle.toml.specs.View.{table_view}
use Rattle.gl_task_file.proofs.Refusals.{refusal_is}
use Rattle.gl_task_file.proofs.reader.read_task.Goals as goal

pub returns-in-Ok-clause-refused : goal.returns-in-Ok-clause-refused
returns-in-Ok-clause-refused c =
    refusal_is c.args.text.now (table_view c.in-Ok.file) (record { utf8 = c.in-Ok.ensures.ok.0; reads = c.in-Ok.ensures.ok.1 }) c.read_table.result c.read_table.ensures.refused
