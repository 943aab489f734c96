use Rattle.std.proofs.Common.{◌≡◌, ◌+◌, ◌*◌, ◌/◌, pos, ◌<ℤ◌, ◌≤ℤ◌, ap, arith}
use Rattle.std.specs.Prelude.{unsigned_abs}
use Rattle.std.proofs.lemmas.Int.{ints, to_z-of_z}
use Rattle.gl_sphere.proofs.Signs.{scaled-negative, scaled-natural}
use Rattle.gl_sphere.proofs.projection.scale.Goals as goal

pub returns-then-m-lt0-clause-value : goal.returns-then-m-lt0-clause-value
returns-then-m-lt0-clause-value c =
    let negative : c.args.m <ℤ pos 0 = grind (arith, ints) in
    let abs : c.unsigned_abs.result ≡ unsigned_abs c.args.m = grind (arith, to_z-of_z, c.unsigned_abs.ensures.value) in
    omega (arith, ints, scaled-negative c.args.m _ negative (ap (λ k. (k * 1274200000 + 10000000000000000) / 20000000000000000) abs))

pub returns-else-m-lt0-clause-value : goal.returns-else-m-lt0-clause-value
returns-else-m-lt0-clause-value c =
    let natural : pos 0 ≤ℤ c.args.m = grind (arith, ints) in
    let abs : c.unsigned_abs.result ≡ unsigned_abs c.args.m = grind (arith, to_z-of_z, c.unsigned_abs.ensures.value) in
    omega (arith, ints, scaled-natural c.args.m _ natural (ap (λ k. (k * 1274200000 + 10000000000000000) / 20000000000000000) abs))
