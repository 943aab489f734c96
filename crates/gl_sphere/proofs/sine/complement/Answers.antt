use Rattle.std.proofs.Common.{◌≡◌, ℤ, pos, ◌-ℤ◌, ap, arith}
use Rattle.std.specs.Prelude.{unsigned_abs}
use Rattle.std.proofs.lemmas.Int.{ints, to_z-of_z}
use Rattle.gl_sphere.specs.Sine.{written_sine, written_cosine}
use Rattle.gl_sphere.proofs.sine.complement.Goals as goal

-- the cosine is the sine of the angle that is left to a quarter turn
cosine_of : (n z : ℤ) → z ≡ pos 540000000 -ℤ pos (unsigned_abs n) → written_sine z ≡ written_cosine n
unfolding written_cosine
cosine_of n z z_is = ap written_sine z_is

pub returns-clause-value : goal.returns-clause-value
returns-clause-value c =
    let abs : c.unsigned_abs.result ≡ unsigned_abs c.args.n = grind (arith, to_z-of_z, c.unsigned_abs.ensures.value) in
    cosine_of c.args.n _ (omega (arith, ints, abs))
