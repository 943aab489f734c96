use Rattle.std.proofs.Common.{◌≡◌, ℕ, ◌*◌, ap, arith, ℤ, ◌-ℤ◌}
use Rattle.std.specs.Prelude.{unsigned_abs}
use Rattle.std.proofs.lemmas.Int.{to_z-of_z}
use Rattle.gl_sphere.specs.Distance.{squared_gap}
use Rattle.gl_sphere.proofs.Chords.{squared_gap-bound}
use Rattle.gl_sphere.proofs.distance.square_of_gap.Goals as goal

gap_is : (g : ℕ) (a b : ℤ) → g ≡ unsigned_abs (a -ℤ b) → g * g ≡ squared_gap a b
unfolding squared_gap
gap_is g a b h = ap (λ n. n * n) h

pub returns-clause-value : goal.returns-clause-value
returns-clause-value c =
    gap_is c.abs_diff-gap.result c.args.a c.args.b (grind (arith, to_z-of_z, c.abs_diff-gap.ensures))

pub returns-clause-bound : goal.returns-clause-bound
returns-clause-bound c =
    omega (arith, returns-clause-value c, squared_gap-bound c.args.a c.args.b c.requires.a_in_range c.requires.b_in_range)
