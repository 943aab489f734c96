use Rattle.std.proofs.Common.{◌≡◌, ℤ, to_z, of_z, w32, arith}
use Rattle.std.proofs.lemmas.Int.{ints, to_z-of_z}
use Rattle.gl_sphere.specs.Sine.{written_sine, written_cosine}
use Rattle.gl_sphere.specs.Product.{product, scaled}
use Rattle.gl_sphere.specs.Components.{written_x, written_y, written_z}
use Rattle.gl_sphere.specs.Place.{written_vector}
use Rattle.gl_sphere.specs.declared.place.Grid.{Grid}
use Rattle.gl_sphere.proofs.Vectors.{Vec3-same}
use Rattle.gl_sphere.proofs.projection.vector_in_full.Goals as goal
use Rattle.gl_sphere.proofs.projection.vector_in_full.Goals.{After-scale-3}

x-is : (g : Grid) (a b m r : ℤ) → a ≡ written_cosine g.lat → b ≡ written_cosine g.lon → m ≡ product a b → r ≡ scaled m → r ≡ written_x g
unfolding written_x
x-is g a b m r a_is b_is m_is r_is = cc

x-of : (c : After-scale-3) → to_z w32 (of_z w32 c.scale.result) ≡ written_x c.args.g
x-of c =
    let lat : c.wcos-from_axis.result ≡ written_cosine c.args.g.lat = grind (arith, to_z-of_z, c.wcos-from_axis.ensures.value) in
    let lon : c.wcos.result ≡ written_cosine c.args.g.lon = grind (arith, to_z-of_z, c.wcos.ensures.value) in
    let m : c.mul.result ≡ product c.wcos-from_axis.result c.wcos.result = grind (arith, to_z-of_z, c.mul.ensures.value) in
    let r : c.scale.result ≡ scaled c.mul.result = grind (arith, to_z-of_z, c.scale.ensures.value) in
    omega (arith, ints, x-is c.args.g _ _ _ _ lat lon m r)

y-is : (g : Grid) (a b m r : ℤ) → a ≡ written_cosine g.lat → b ≡ written_sine g.lon → m ≡ product a b → r ≡ scaled m → r ≡ written_y g
unfolding written_y
y-is g a b m r a_is b_is m_is r_is = cc

y-of : (c : After-scale-3) → to_z w32 (of_z w32 c.scale-2.result) ≡ written_y c.args.g
y-of c =
    let lat : c.wcos-from_axis.result ≡ written_cosine c.args.g.lat = grind (arith, to_z-of_z, c.wcos-from_axis.ensures.value) in
    let lon : c.wsin.result ≡ written_sine c.args.g.lon = grind (arith, to_z-of_z, c.wsin.ensures.value) in
    let m : c.mul-2.result ≡ product c.wcos-from_axis.result c.wsin.result = grind (arith, to_z-of_z, c.mul-2.ensures.value) in
    let r : c.scale-2.result ≡ scaled c.mul-2.result = grind (arith, to_z-of_z, c.scale-2.ensures.value) in
    omega (arith, ints, y-is c.args.g _ _ _ _ lat lon m r)

z-is : (g : Grid) (a r : ℤ) → a ≡ written_sine g.lat → r ≡ scaled a → r ≡ written_z g
unfolding written_z
z-is g a r a_is r_is = cc

z-of : (c : After-scale-3) → to_z w32 (of_z w32 c.scale-3.result) ≡ written_z c.args.g
z-of c =
    let lat : c.wsin-2.result ≡ written_sine c.args.g.lat = grind (arith, to_z-of_z, c.wsin-2.ensures.value) in
    let r : c.scale-3.result ≡ scaled c.wsin-2.result = grind (arith, to_z-of_z, c.scale-3.ensures.value) in
    omega (arith, ints, z-is c.args.g _ _ lat r)

pub returns : goal.returns
unfolding written_vector
returns c = Vec3-same _ (written_vector c.args.g) (x-of c.before) (y-of c.before) (z-of c.before)
