use Rattle.std.proofs.Common.{rules, ◌*◌, sym, subst}
use Rattle.gl_sphere.specs.Range.{IsWithin}
use Rattle.gl_zone.specs.Product.{greatest_scalar_product}
use Rattle.gl_zone.proofs.Products.{product_within}
use Rattle.gl_zone.proofs.direction.crosswise.Goals as goal

pub returns-clause-value : goal.returns-clause-value
returns-clause-value c = search rules

pub returns-clause-bound : goal.returns-clause-bound
returns-clause-bound c =
    subst (IsWithin (greatest_scalar_product * greatest_scalar_product)) (sym (returns-clause-value c))
    (product_within c.args.a c.args.b greatest_scalar_product greatest_scalar_product c.requires.a_in_range c.requires.b_in_range)
