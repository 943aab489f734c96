use Rattle.std.proofs.Common.{◌≡◌, ◌*◌, ◌*ℤ◌, ◌-ℤ◌, ℤ, pos, w64, ap, ◌∙◌, lit<}
use Rattle.std.specs.Prelude.{int_le}
use mir.Syntax.{w128}
use Rattle.gl_zone.specs.Product.{greatest_scalar_product}
use Rattle.gl_zone.specs.Zones.{cross}
use Rattle.gl_zone.proofs.Products.{difference_fits, difference_kept, product_passed}
use Rattle.gl_zone.proofs.direction.Direction.is_clockwise.Goals as goal

difference_is : (p q a b c d : ℤ) → p ≡ a *ℤ d → q ≡ b *ℤ c → p -ℤ q ≡ cross (a, b) (c, d)
difference_is p q a b c d p_is q_is = cc

pub overflow_sub-result : goal.overflow_sub-result
overflow_sub-result c =
    difference_fits w128 c.crosswise.result c.crosswise-2.result (greatest_scalar_product * greatest_scalar_product) (greatest_scalar_product * greatest_scalar_product)
    (lit< tt) c.crosswise.ensures.bound c.crosswise-2.ensures.bound

pub returns : goal.returns
returns c =
    ap (int_le (pos 0))
    (difference_kept w128 c.crosswise.result c.crosswise-2.result (greatest_scalar_product * greatest_scalar_product) (greatest_scalar_product * greatest_scalar_product)
    (lit< tt) c.crosswise.ensures.bound c.crosswise-2.ensures.bound
    ∙ difference_is _ _ c.args.self.north c.args.self.east c.args.other.north c.args.other.east
    (product_passed w64 w64 _ c.args.self.north c.args.other.east greatest_scalar_product greatest_scalar_product (lit< tt)
    (lit< tt) c.args.self.north_in_range c.args.other.east_in_range c.crosswise.ensures.value)
    (product_passed w64 w64 _ c.args.self.east c.args.other.north greatest_scalar_product greatest_scalar_product (lit< tt)
    (lit< tt) c.args.self.east_in_range c.args.other.north_in_range c.crosswise-2.ensures.value))
