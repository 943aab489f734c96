use Rattle.std.proofs.Common.{◌+◌, ◌-◌, ◌/◌, arith}
use Rattle.gl_check.proofs.Choices.{fix_order}
use Rattle.gl_check.proofs.choice.place_of.Goals as goal

pub halves-preserved-then-there-fix-2 : goal.halves-preserved-then-there-fix-2
halves-preserved-then-there-fix-2 g c =
    let rule = g.G.Goal.rule c.args.goal.now in
    let middle = c.halves.low + (c.halves.high - c.halves.low) / 2 in
    record {
      order = omega arith;
      within = c.halves.invariant.within;
      below = λ k less. omega (arith, fix_order rule c.args.axis k middle (g.met.G.Goal.laws c.args.goal.now) c.requires (omega arith) (omega arith));
      above = c.halves.invariant.above;
    }

pub halves-preserved : goal.halves-preserved
halves-preserved g c =
    let rule = g.G.Goal.rule c.args.goal.now in
    let middle = c.halves.low + (c.halves.high - c.halves.low) / 2 in
    record {
      order = omega arith;
      within = omega arith;
      below = c.halves.invariant.below;
      above = λ k high inside. omega (arith, fix_order rule c.args.axis middle k (g.met.G.Goal.laws c.args.goal.now) c.requires high inside);
    }
