use Rattle.std.proofs.Common.{arith}
use Rattle.gl_goal.proofs.Listed.{axis-most, listed-axis}
use Rattle.gl_goal.proofs.lists.Lists.len.Goals as goal

pub overflow_cast-result : goal.overflow_cast-result
overflow_cast-result c =
    omega (arith, c.len.ensures, axis-most _ _ c.args.axis c.index.result.now c.self.invariant c.index.ensures (listed-axis _ _ c.args.self.now c.args.axis c.self.view_is c.requires))
