use Rattle.std.proofs.Common.{w32, sym, subst, lit<}
use mir.Syntax.{w128}
use Rattle.gl_sphere.specs.Range.{IsWithin}
use Rattle.gl_sphere.specs.Sphere.{radius}
use Rattle.gl_zone.specs.Side.{greatest_forwards, greatest_share_of_side}
use Rattle.gl_zone.proofs.Products.{product_within, product_kept}
use Rattle.gl_zone.proofs.sides.share_of_side.Goals as goal

pub returns-clause-value : goal.returns-clause-value
returns-clause-value c =
    product_kept w32 w128 c.args.forwards c.args.component greatest_forwards radius (lit< tt) (lit< tt) (lit< tt) (lit< tt) c.requires.forwards_in_range c.requires.component_in_range

pub returns-clause-bound : goal.returns-clause-bound
returns-clause-bound c =
    subst (IsWithin greatest_share_of_side) (sym (returns-clause-value c))
    (product_within c.args.forwards c.args.component greatest_forwards radius c.requires.forwards_in_range c.requires.component_in_range)
