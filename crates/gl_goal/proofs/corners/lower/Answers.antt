use Rattle.gl_goal.proofs.Kept.{lower-kept, lower-within}
use Rattle.gl_goal.proofs.corners.lower.Goals as goal

pub invariant_of-result : goal.invariant_of-result
invariant_of-result c = record {
  x_in_range = lower-within c.args.a.x c.args.b.x _ c.args.a.x_in_range c.args.b.x_in_range (lower-kept c.args.a.x c.args.b.x c.min.result c.args.a.x_in_range c.args.b.x_in_range c.min.ensures.value);
  y_in_range = lower-within c.args.a.y c.args.b.y _ c.args.a.y_in_range c.args.b.y_in_range
      (lower-kept c.args.a.y c.args.b.y c.min-2.result c.args.a.y_in_range c.args.b.y_in_range c.min-2.ensures.value);
  z_in_range = lower-within c.args.a.z c.args.b.z _ c.args.a.z_in_range c.args.b.z_in_range
      (lower-kept c.args.a.z c.args.b.z c.min-3.result c.args.a.z_in_range c.args.b.z_in_range c.min-3.ensures.value);
}

pub returns-clause-x : goal.returns-clause-x
returns-clause-x c = lower-kept c.args.a.x c.args.b.x c.min.result c.args.a.x_in_range c.args.b.x_in_range c.min.ensures.value

pub returns-clause-y : goal.returns-clause-y
returns-clause-y c = lower-kept c.args.a.y c.args.b.y c.min-2.result c.args.a.y_in_range c.args.b.y_in_range c.min-2.ensures.value

pub returns-clause-z : goal.returns-clause-z
returns-clause-z c = lower-kept c.args.a.z c.args.b.z c.min-3.result c.args.a.z_in_range c.args.b.z_in_range c.min-3.ensures.value
