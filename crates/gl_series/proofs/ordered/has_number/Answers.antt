use Rattle.std.proofs.Common.{◌∙◌}
use Rattle.gl_series.proofs.LookedUp.{has_found}
use Rattle.gl_series.proofs.ordered.has_number.Goals as goal

pub returns : goal.returns
returns c =
    c.is_some.ensures ∙ has_found c.args.number.now c.args.day.now.day.now.rows c.row_beside.result c.row_beside.ensures
