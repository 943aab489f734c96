use Rattle.std.proofs.Common.{◌≡◌, ℕ, ◌*◌, ◌<◌, ◌≤◌, ltb, pos, ◌-ℤ◌, arith}
use Rattle.std.proofs.lemmas.Int.{ints}
use Rattle.std.proofs.lemmas.Bool.{cond-true, cond-false, lt-ltb, le-ltb}
use Rattle.gl_zone.specs.Zones.{angle_of}
use Rattle.gl_zone.proofs.containment.angle_of.Goals as goal

angle_of-west : (r : ℕ) → 1080000000 < 6000 * r → angle_of r ≡ pos (6000 * r) -ℤ pos 2160000000
unfolding angle_of
angle_of-west r h = cond-true (ltb 1080000000 (6000 * r)) _ _ (lt-ltb _ _ h)

angle_of-east : (r : ℕ) → 6000 * r ≤ 1080000000 → angle_of r ≡ pos (6000 * r)
unfolding angle_of
angle_of-east r h = cond-false (ltb 1080000000 (6000 * r)) _ _ (le-ltb _ _ h)

pub returns-then-angle-clause-value : goal.returns-then-angle-clause-value
returns-then-angle-clause-value c =
    omega (arith, ints, angle_of-west c.args.radial (omega (arith, ints)))

pub returns-else-angle-clause-value : goal.returns-else-angle-clause-value
returns-else-angle-clause-value c =
    omega (arith, ints, angle_of-east c.args.radial (omega (arith, ints)))
