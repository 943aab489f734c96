use Rattle.std.proofs.Common.{arith}
use Rattle.gl_free.proofs.ChoiceLemmas.{count-bounds}
use Rattle.gl_free.proofs.warm.warm_start.Goals as goal

pub overflow_add-step : goal.overflow_add-step
overflow_add-step c =
    let bounds = count-bounds c.args.goal.now c.hulls-hulls.result.now c.hulls-hulls.ensures in
    omega (arith, bounds.1, c.len-last.ensures)
