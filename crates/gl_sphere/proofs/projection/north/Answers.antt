use Rattle.std.proofs.Common.{◌≡◌, ℤ, neg_ℤ, to_z, of_z, w32, arith, ap, ◌∙◌}
use Rattle.std.proofs.lemmas.Int.{ints, to_z-of_z}
use Rattle.gl_sphere.specs.Sine.{written_sine, written_cosine}
use Rattle.gl_sphere.specs.Product.{product, scaled}
use Rattle.gl_sphere.specs.Components.{north_x, north_y, north_z}
use Rattle.gl_sphere.specs.Place.{written_north}
use Rattle.gl_sphere.specs.declared.place.Grid.{Grid}
use Rattle.gl_sphere.proofs.Negated.{negated}
use Rattle.gl_sphere.proofs.Vectors.{Vec3-same}
use Rattle.gl_sphere.proofs.projection.north.Goals as goal
use Rattle.gl_sphere.proofs.projection.north.Goals.{After-scale-3}

x-is : (g : Grid) (a b m r : ℤ) → a ≡ written_sine g.lat → b ≡ written_cosine g.lon → m ≡ product a b → r ≡ scaled (neg_ℤ m) → r ≡ north_x g
unfolding north_x
x-is g a b m r a_is b_is m_is r_is = cc

x-of : (c : After-scale-3) → to_z w32 (of_z w32 c.scale.result) ≡ north_x c.args.g
x-of c =
    let lat : c.wsin-height.result ≡ written_sine c.args.g.lat = grind (arith, to_z-of_z, c.wsin-height.ensures.value) in
    let lon : c.wcos.result ≡ written_cosine c.args.g.lon = grind (arith, to_z-of_z, c.wcos.ensures.value) in
    let m : c.mul.result ≡ product c.wsin-height.result c.wcos.result = grind (arith, to_z-of_z, c.mul.ensures.value) in
    let r : c.scale.result ≡ scaled (neg_ℤ c.mul.result) = c.scale.ensures.value ∙ ap scaled (negated c.mul.result c.mul.ensures.bound) in
    omega (arith, ints, x-is c.args.g _ _ _ _ lat lon m r)

y-is : (g : Grid) (a b m r : ℤ) → a ≡ written_sine g.lat → b ≡ written_sine g.lon → m ≡ product a b → r ≡ scaled (neg_ℤ m) → r ≡ north_y g
unfolding north_y
y-is g a b m r a_is b_is m_is r_is = cc

y-of : (c : After-scale-3) → to_z w32 (of_z w32 c.scale-2.result) ≡ north_y c.args.g
y-of c =
    let lat : c.wsin-height.result ≡ written_sine c.args.g.lat = grind (arith, to_z-of_z, c.wsin-height.ensures.value) in
    let lon : c.wsin.result ≡ written_sine c.args.g.lon = grind (arith, to_z-of_z, c.wsin.ensures.value) in
    let m : c.mul-2.result ≡ product c.wsin-height.result c.wsin.result = grind (arith, to_z-of_z, c.mul-2.ensures.value) in
    let r : c.scale-2.result ≡ scaled (neg_ℤ c.mul-2.result) = c.scale-2.ensures.value ∙ ap scaled (negated c.mul-2.result c.mul-2.ensures.bound) in
    omega (arith, ints, y-is c.args.g _ _ _ _ lat lon m r)

z-is : (g : Grid) (a r : ℤ) → a ≡ written_cosine g.lat → r ≡ scaled a → r ≡ north_z g
unfolding north_z
z-is g a r a_is r_is = cc

z-of : (c : After-scale-3) → to_z w32 (of_z w32 c.scale-3.result) ≡ north_z c.args.g
z-of c =
    let lat : c.wcos-2.result ≡ written_cosine c.args.g.lat = grind (arith, to_z-of_z, c.wcos-2.ensures.value) in
    let r : c.scale-3.result ≡ scaled c.wcos-2.result = grind (arith, to_z-of_z, c.scale-3.ensures.value) in
    omega (arith, ints, z-is c.args.g _ _ lat r)

pub returns : goal.returns
unfolding written_north
returns c = Vec3-same _ (written_north c.args.g) (x-of c.before) (y-of c.before) (z-of c.before)
