use Rattle.std.proofs.Common.{◌≡◌, ◌-ℤ◌, ◌*ℤ◌, ℤ, FitsSigned, w64, to_z, of_z, arith, lit<}
use Rattle.std.proofs.lemmas.Int.{fits_signed_mul, ints, to_z-of_z}
use Rattle.gl_sphere.specs.Range.{IsWithin}
use Rattle.gl_sphere.specs.Lemmas.Signs.{abs_at_most}
use Rattle.gl_airspace.proofs.containment.rectangle.Goals as goal

-- a difference of longitudes times one of latitudes has 64 bits
product_fits : (a b : ℤ) → IsWithin 2_160_000_000 a → IsWithin 1_080_000_000 b → FitsSigned w64 (a *ℤ b)
product_fits a b along up =
    fits_signed_mul w64 a b 2_160_000_000 1_080_000_000 (abs_at_most a 2_160_000_000 along) (abs_at_most b 1_080_000_000 up) (lit< tt)

pub overflow_mul-result : goal.overflow_mul-result
overflow_mul-result c =
    product_fits (to_z w64 (of_z w64 (to_z w64 (of_z w64 c.from.result) -ℤ to_z w64 (of_z w64 c.from-2.result))))
    (to_z w64 (of_z w64 (to_z w64 (of_z w64 c.from-3.result) -ℤ to_z w64 (of_z w64 c.from-4.result)))) (omega (arith, ints), omega (arith, ints)) (omega (arith, ints), omega (arith, ints))

pub returns : goal.returns
returns c =
    let along : to_z w64 (of_z w64 (to_z w64 (of_z w64 c.from.result) -ℤ to_z w64 (of_z w64 c.from-2.result))) ≡ c.args.east.lon -ℤ c.args.from.lon = omega (arith, ints) in
    let up : to_z w64 (of_z w64 (to_z w64 (of_z w64 c.from-3.result) -ℤ to_z w64 (of_z w64 c.from-4.result))) ≡ c.args.north.lat -ℤ c.args.from.lat = omega (arith, ints) in
    let fits = product_fits (c.args.east.lon -ℤ c.args.from.lon) (c.args.north.lat -ℤ c.args.from.lat) (omega (arith, ints), omega (arith, ints)) (omega (arith, ints), omega (arith, ints)) in
    rw (along, up) (to_z-of_z w64 _ fits)
