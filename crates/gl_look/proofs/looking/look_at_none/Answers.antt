use Rattle.std.proofs.Common.{◌∙◌, ◌++◌, ap, List}
use Rattle.std.proofs.lemmas.Result.{IfOk-weaker}
use Rattle.toml.specs.View.{table_view}
use Rattle.gl_look.specs.Keys.{refused_told}
use Rattle.gl_look.specs.Look.{no_task}
use Rattle.gl_look.specs.declared.told.Told.{Told}
use Rattle.gl_look.proofs.looking.look_at_none.Goals as goal

pub returns : goal.returns
returns c =
    IfOk-weaker c.look_at_refusal.result _ _
    (λ more is folder names. no_task (table_view c.args.table.now) c.args.error.now c.requires.document c.requires.known c.requires.refused
    (is ∙ ap (λ (r : List Told). r ++ refused_told r) c.requires.keys))
    c.look_at_refusal.ensures
