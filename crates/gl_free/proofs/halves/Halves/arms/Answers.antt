use Rattle.std.proofs.Common.{arith}
use Rattle.gl_free.proofs.HalfLemmas.{longest-both, none-after}
use Rattle.gl_free.proofs.halves.Halves.arms.Goals as goal

pub returns-then-after-floor : goal.returns-then-after-floor
returns-then-after-floor c = record {
  longest = none-after c.args.hulls.now c.args.sides.now c.args.self.now.before.allowed c.args.self.now.after.allowed c.args.middle c.args.best _ _ c.arm-before.result c.arm-after.result
      c.requires.halves.before_is c.requires.halves.after_is c.arm-before.ensures.arm c.arm-after.ensures.arm c.saturating_sub-floor-2.ensures (omega arith);
}

pub returns : goal.returns
returns c = record {
  longest = longest-both c.args.hulls.now c.args.sides.now c.args.self.now.before.allowed c.args.self.now.after.allowed c.args.middle c.args.best _ _ c.arm-before.result c.arm-after.result
      c.requires.halves.before_is c.requires.halves.after_is c.arm-before.ensures.arm c.arm-after.ensures.arm (omega arith) (omega arith);
}
