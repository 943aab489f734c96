use Rattle.std.proofs.Common.{◌≡◌, ℤ, neg_ℤ, to_z, of_z, w32, arith, refl, ap, ◌∙◌}
use Rattle.std.proofs.lemmas.Int.{ints, to_z-of_z}
use Rattle.gl_sphere.specs.Sine.{written_sine, written_cosine}
use Rattle.gl_sphere.specs.Product.{scaled}
use Rattle.gl_sphere.specs.Components.{east_x, east_y}
use Rattle.gl_sphere.specs.Place.{written_east}
use Rattle.gl_sphere.specs.declared.place.Grid.{Grid}
use Rattle.gl_sphere.proofs.Negated.{negated}
use Rattle.gl_sphere.proofs.Vectors.{Vec3-same}
use Rattle.gl_sphere.proofs.projection.east.Goals as goal
use Rattle.gl_sphere.proofs.projection.east.Goals.{After-scale-2}

x-is : (g : Grid) (a r : ℤ) → a ≡ written_sine g.lon → r ≡ scaled (neg_ℤ a) → r ≡ east_x g
unfolding east_x
x-is g a r a_is r_is = cc

x-of : (c : After-scale-2) → to_z w32 (of_z w32 c.scale.result) ≡ east_x c.args.g
x-of c =
    let lon : c.wsin.result ≡ written_sine c.args.g.lon = grind (arith, to_z-of_z, c.wsin.ensures.value) in
    let r : c.scale.result ≡ scaled (neg_ℤ c.wsin.result) = c.scale.ensures.value ∙ ap scaled (negated c.wsin.result c.wsin.ensures.bound) in
    omega (arith, ints, x-is c.args.g _ _ lon r)

y-is : (g : Grid) (a r : ℤ) → a ≡ written_cosine g.lon → r ≡ scaled a → r ≡ east_y g
unfolding east_y
y-is g a r a_is r_is = cc

y-of : (c : After-scale-2) → to_z w32 (of_z w32 c.scale-2.result) ≡ east_y c.args.g
y-of c =
    let lon : c.wcos.result ≡ written_cosine c.args.g.lon = grind (arith, to_z-of_z, c.wcos.ensures.value) in
    let r : c.scale-2.result ≡ scaled c.wcos.result = grind (arith, to_z-of_z, c.scale-2.ensures.value) in
    omega (arith, ints, y-is c.args.g _ _ lon r)

pub returns : goal.returns
unfolding written_east
returns c = Vec3-same _ (written_east c.args.g) (x-of c.before) (y-of c.before) refl
