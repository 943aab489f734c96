use Rattle.std.proofs.Common.{pos, ◌<ℤ◌, ◌≤ℤ◌, arith}
use Rattle.std.proofs.lemmas.Int.{ints}
use Rattle.gl_sphere.proofs.Signs.{written_sine-negative, written_sine-natural}
use Rattle.gl_sphere.proofs.sine.with_sign.Goals as goal

pub returns-then-n-lt0-clause-value : goal.returns-then-n-lt0-clause-value
returns-then-n-lt0-clause-value c =
    let negative : c.args.n <ℤ pos 0 = grind (arith, ints) in
    omega (arith, ints, c.requires.size, written_sine-negative c.args.n negative)

pub returns-else-n-lt0-clause-value : goal.returns-else-n-lt0-clause-value
returns-else-n-lt0-clause-value c =
    let natural : pos 0 ≤ℤ c.args.n = grind (arith, ints) in
    omega (arith, ints, c.requires.size, written_sine-natural c.args.n natural)
