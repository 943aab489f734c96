use Rattle.std.proofs.Common.{◌≡◌, ◌*ℤ◌, ◌+ℤ◌, ℤ, w32, w64, sym, subst, ◌∙◌, lit<}
use Rattle.gl_sphere.specs.Range.{IsWithin}
use Rattle.gl_sphere.specs.declared.place.Vec3.{Vec3}
use Rattle.gl_zone.specs.Product.{scalar_product, greatest_product, greatest_scalar_product}
use Rattle.gl_zone.proofs.Products.{sum_fits, three_fit, three_kept, three_within, product_passed}
use Rattle.gl_zone.proofs.product.scalar_product.Goals as goal
use Rattle.gl_zone.proofs.product.scalar_product.Goals.{After-product-3}

sum_is : (a b : Vec3) (x y z : ℤ) → x ≡ a.x *ℤ b.x → y ≡ a.y *ℤ b.y → z ≡ a.z *ℤ b.z → x +ℤ y +ℤ z ≡ scalar_product a b
unfolding scalar_product
sum_is a b x y z x_is y_is z_is = cc

sum-is : (c : After-product-3) → c.product.result +ℤ c.product-2.result +ℤ c.product-3.result ≡ scalar_product c.args.a c.args.b
sum-is c =
    let a : Vec3 = c.args.a in
    let b : Vec3 = c.args.b in
    sum_is a b _ _ _
    (product_passed w32 w32 _ a.x b.x 637100000 637100000 (lit< tt) (lit< tt) a.x_in_range b.x_in_range c.product.ensures.value)
    (product_passed w32 w32 _ a.y b.y 637100000 637100000 (lit< tt) (lit< tt) a.y_in_range b.y_in_range c.product-2.ensures.value)
    (product_passed w32 w32 _ a.z b.z 637100000 637100000 (lit< tt) (lit< tt) a.z_in_range b.z_in_range c.product-3.ensures.value)

pub returns-clause-value : goal.returns-clause-value
returns-clause-value c =
    three_kept w64 c.product.result c.product-2.result c.product-3.result greatest_product (lit< tt) c.product.ensures.bound c.product-2.ensures.bound c.product-3.ensures.bound ∙ sum-is c

pub returns-clause-bound : goal.returns-clause-bound
returns-clause-bound c =
    subst (IsWithin greatest_scalar_product) (sym (three_kept w64 c.product.result c.product-2.result c.product-3.result greatest_product
    (lit< tt) c.product.ensures.bound c.product-2.ensures.bound c.product-3.ensures.bound))
    (three_within c.product.result c.product-2.result c.product-3.result greatest_product c.product.ensures.bound c.product-2.ensures.bound c.product-3.ensures.bound)

pub overflow_add-result : goal.overflow_add-result
overflow_add-result c = sum_fits w64 c.product.result c.product-2.result greatest_product greatest_product (lit< tt) c.product.ensures.bound c.product-2.ensures.bound

pub overflow_add-result-2 : goal.overflow_add-result-2
overflow_add-result-2 c = three_fit w64 c.product.result c.product-2.result c.product-3.result greatest_product (lit< tt) c.product.ensures.bound c.product-2.ensures.bound c.product-3.ensures.bound
