use Rattle.std.proofs.Common.{◌≡◌, ◌*ℤ◌, ◌+ℤ◌, ◌-ℤ◌, ℤ, to_z, of_z, w32, w64, sym, subst, ◌∙◌, lit<}
use mir.Syntax.{w128}
use Rattle.gl_sphere.specs.Range.{IsWithin}
use Rattle.gl_sphere.specs.Sphere.{radius}
use Rattle.gl_sphere.specs.declared.place.Vec3.{Vec3}
use Rattle.gl_zone.specs.Product.{scalar_product, greatest_scalar_product}
use Rattle.gl_zone.specs.Side.{forwards, side_of, greatest_forwards, greatest_share_of_side, greatest_side}
use Rattle.gl_zone.specs.declared.line.Line.{Line}
use Rattle.gl_zone.proofs.Products.{kept, sum_fits, three_fit, three_kept, three_within, product_passed}
use Rattle.gl_zone.proofs.sides.side.Goals as goal
use Rattle.gl_zone.proofs.sides.side.Goals.{After-share_of_side-3}

forwards_is : (line : Line) (p q s l d f x : ℤ) → s ≡ scalar_product line.centre line.centre → l ≡ scalar_product line.centre line.towards → f ≡ (q *ℤ s) -ℤ (p *ℤ l) → d ≡ f *ℤ x
    → d ≡ forwards line p q *ℤ x
unfolding forwards
forwards_is line p q s l d f x s_is l_is f_is d_is = cc

-- what a component adds to the side, as the calls say it
component_is : (line : Line) (p q s l d f x : ℤ) → s ≡ scalar_product line.centre line.centre → l ≡ scalar_product line.centre line.towards
    → IsWithin radius p → IsWithin radius q → IsWithin greatest_scalar_product s → IsWithin greatest_scalar_product l → IsWithin greatest_forwards f → IsWithin radius x
    → f ≡ (to_z w32 (of_z w32 q) *ℤ to_z w64 (of_z w64 s)) -ℤ (to_z w32 (of_z w32 p) *ℤ to_z w64 (of_z w64 l)) → d ≡ to_z w128 (of_z w128 f) *ℤ to_z w32 (of_z w32 x) → d ≡ forwards line p q *ℤ x
component_is line p q s l d f x s_is l_is p_in q_in s_in l_in f_in x_in f_is d_is =
    let ep : to_z w32 (of_z w32 p) ≡ p = kept w32 p radius (lit< tt) p_in in
    let eq : to_z w32 (of_z w32 q) ≡ q = kept w32 q radius (lit< tt) q_in in
    let es : to_z w64 (of_z w64 s) ≡ s = kept w64 s greatest_scalar_product (lit< tt) s_in in
    let el : to_z w64 (of_z w64 l) ≡ l = kept w64 l greatest_scalar_product (lit< tt) l_in in
    let direction : f ≡ (q *ℤ s) -ℤ (p *ℤ l) = cc in
    forwards_is line p q s l d f x s_is l_is direction (product_passed w128 w32 d f x greatest_forwards radius (lit< tt) (lit< tt) f_in x_in d_is)

sum_is : (line : Line) (x : Vec3) (a b c : ℤ) → a ≡ forwards line line.centre.x line.towards.x *ℤ x.x → b ≡ forwards line line.centre.y line.towards.y *ℤ x.y
    → c ≡ forwards line line.centre.z line.towards.z *ℤ x.z → a +ℤ b +ℤ c ≡ side_of line x
unfolding side_of
sum_is line x a b c a_is b_is c_is = cc

sum-is : (c : After-share_of_side-3) → c.share_of_side.result +ℤ c.share_of_side-2.result +ℤ c.share_of_side-3.result ≡ side_of c.args.line.now c.args.x
sum-is c =
    let line : Line = c.args.line.now in
    let x : Vec3 = c.args.x in
    let s = c.scalar_product-square in
    let l = c.scalar_product-along in
    sum_is line x _ _ _
    (component_is line line.centre.x line.towards.x s.result l.result _ _ x.x s.ensures.value l.ensures.value line.centre.x_in_range line.towards.x_in_range s.ensures.bound l.ensures.bound
    c.forwards.ensures.bound x.x_in_range c.forwards.ensures.value c.share_of_side.ensures.value)
    (component_is line line.centre.y line.towards.y s.result l.result _ _ x.y s.ensures.value l.ensures.value line.centre.y_in_range line.towards.y_in_range s.ensures.bound l.ensures.bound
    c.forwards-2.ensures.bound x.y_in_range c.forwards-2.ensures.value c.share_of_side-2.ensures.value)
    (component_is line line.centre.z line.towards.z s.result l.result _ _ x.z s.ensures.value l.ensures.value line.centre.z_in_range line.towards.z_in_range s.ensures.bound l.ensures.bound
    c.forwards-3.ensures.bound x.z_in_range c.forwards-3.ensures.value c.share_of_side-3.ensures.value)

pub returns-clause-value : goal.returns-clause-value
returns-clause-value c =
    three_kept w128 c.share_of_side.result c.share_of_side-2.result c.share_of_side-3.result greatest_share_of_side
    (lit< tt) c.share_of_side.ensures.bound c.share_of_side-2.ensures.bound c.share_of_side-3.ensures.bound ∙ sum-is c

pub returns-clause-bound : goal.returns-clause-bound
returns-clause-bound c =
    subst (IsWithin greatest_side) (sym (three_kept w128 c.share_of_side.result c.share_of_side-2.result c.share_of_side-3.result greatest_share_of_side
    (lit< tt) c.share_of_side.ensures.bound c.share_of_side-2.ensures.bound c.share_of_side-3.ensures.bound))
    (three_within c.share_of_side.result c.share_of_side-2.result c.share_of_side-3.result greatest_share_of_side c.share_of_side.ensures.bound c.share_of_side-2.ensures.bound
    c.share_of_side-3.ensures.bound)

pub overflow_add-result : goal.overflow_add-result
overflow_add-result c = sum_fits w128 c.share_of_side.result c.share_of_side-2.result greatest_share_of_side greatest_share_of_side
    (lit< tt) c.share_of_side.ensures.bound c.share_of_side-2.ensures.bound

pub overflow_add-result-2 : goal.overflow_add-result-2
overflow_add-result-2 c = three_fit w128 c.share_of_side.result c.share_of_side-2.result c.share_of_side-3.result greatest_share_of_side
    (lit< tt) c.share_of_side.ensures.bound c.share_of_side-2.ensures.bound c.share_of_side-3.ensures.bound
