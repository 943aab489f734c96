use Rattle.std.proofs.Common.{◌≡◌, ◌*◌, ◌*ℤ◌, ◌-ℤ◌, ℤ, w32, w64, sym, subst, ◌∙◌, lit<}
use mir.Syntax.{w128}
use Rattle.gl_sphere.specs.Range.{IsWithin}
use Rattle.gl_sphere.specs.Sphere.{radius}
use Rattle.gl_zone.specs.Product.{greatest_scalar_product}
use Rattle.gl_zone.specs.Side.{greatest_forwards}
use Rattle.gl_zone.proofs.Products.{difference_within, difference_kept, product_passed}
use Rattle.gl_zone.proofs.sides.forwards.Goals as goal
use Rattle.gl_zone.proofs.sides.forwards.Goals.{After-wide_product-2}

difference_is : (p q a b c d : ℤ) → p ≡ a *ℤ b → q ≡ c *ℤ d → p -ℤ q ≡ (a *ℤ b) -ℤ (c *ℤ d)
difference_is p q a b c d p_is q_is = cc

pub returns-clause-value : goal.returns-clause-value
returns-clause-value c =
    difference_kept w128 c.wide_product.result c.wide_product-2.result (radius * greatest_scalar_product) (radius * greatest_scalar_product)
    (lit< tt) c.wide_product.ensures.bound c.wide_product-2.ensures.bound
    ∙ difference_is _ _ c.args.towards c.args.square c.args.centre c.args.along
    (product_passed w32 w64 _ c.args.towards c.args.square radius greatest_scalar_product (lit< tt) (lit< tt) c.requires.towards_in_range c.requires.square_in_range c.wide_product.ensures.value)
    (product_passed w32 w64 _ c.args.centre c.args.along radius greatest_scalar_product (lit< tt) (lit< tt) c.requires.centre_in_range c.requires.along_in_range c.wide_product-2.ensures.value)

pub returns-clause-bound : goal.returns-clause-bound
returns-clause-bound c =
    subst (IsWithin greatest_forwards) (sym (difference_kept w128 c.wide_product.result c.wide_product-2.result (radius * greatest_scalar_product) (radius * greatest_scalar_product)
    (lit< tt) c.wide_product.ensures.bound c.wide_product-2.ensures.bound))
    (difference_within c.wide_product.result c.wide_product-2.result (radius * greatest_scalar_product) (radius * greatest_scalar_product) c.wide_product.ensures.bound c.wide_product-2.ensures.bound)
