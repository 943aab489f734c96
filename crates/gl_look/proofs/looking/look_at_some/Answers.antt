use Rattle.std.proofs.Common.{subst, List}
use Rattle.std.proofs.lemmas.Result.{IfOk-weaker}
use Rattle.toml.specs.View.{table_view}
use Rattle.gl_look.specs.Look.{IsTaskTold, some_task}
use Rattle.gl_look.specs.declared.told.Told.{Told}
use Rattle.gl_look.proofs.looking.look_at_some.Goals as goal

pub returns-clause-is : goal.returns-clause-is
returns-clause-is g c =
    IfOk-weaker c.look_at_task.result _ _
    (λ more is. some_task (table_view c.args.table.now) c.args.task.now c.requires.document c.requires.read
    (subst (λ (r : List Told). IsTaskTold (g.D.Desk.told c.args.desk.now).folder c.args.names.items c.args.task.now r more) c.requires.keys is))
    c.look_at_task.ensures.is
