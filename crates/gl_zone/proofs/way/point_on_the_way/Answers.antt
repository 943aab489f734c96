use Rattle.std.proofs.Common.{ℤ, to_z, of_z, w32, sym, subst, lit<}
use Rattle.gl_sphere.specs.Range.{IsWithin}
use Rattle.gl_sphere.specs.Sphere.{radius}
use Rattle.gl_zone.proofs.Products.{kept}
use Rattle.gl_zone.proofs.way.point_on_the_way.Goals as goal

passed-within : (z : ℤ) → IsWithin radius z → IsWithin radius (to_z w32 (of_z w32 z))
passed-within z h = subst (IsWithin radius) (sym (kept w32 z radius (lit< tt) h)) h

pub invariant_of-result-clause-x_in_range : goal.invariant_of-result-clause-x_in_range
invariant_of-result-clause-x_in_range c =
    passed-within c.on_the_way.result (c.on_the_way.ensures.within radius (passed-within c.args.from.x c.args.from.x_in_range) (passed-within c.args.to.x c.args.to.x_in_range))

pub invariant_of-result-clause-y_in_range : goal.invariant_of-result-clause-y_in_range
invariant_of-result-clause-y_in_range c =
    passed-within c.on_the_way-2.result (c.on_the_way-2.ensures.within radius (passed-within c.args.from.y c.args.from.y_in_range) (passed-within c.args.to.y c.args.to.y_in_range))

pub invariant_of-result-clause-z_in_range : goal.invariant_of-result-clause-z_in_range
invariant_of-result-clause-z_in_range c =
    passed-within c.on_the_way-3.result (c.on_the_way-3.ensures.within radius (passed-within c.args.from.z c.args.from.z_in_range) (passed-within c.args.to.z c.args.to.z_in_range))
