use Rattle.std.specs.Prelude.{ℕ, ◌+◌, ◌*◌, ◌/◌, ℤ, pos, negsuc, neg_ℤ, ◌*ℤ◌, unsigned_abs}
use Rattle.gl_sphere.specs.Sphere.{unit, radius}

-- the number n with the sign of z
unfoldable pub with_sign_of : ℤ → ℕ → ℤ
with_sign_of (pos _) n = pos n
with_sign_of (negsuc _) n = neg_ℤ (pos n)

-- a product of two sines or cosines, rounded towards zero
unfoldable pub product : ℤ → ℤ → ℤ
product a b = with_sign_of (a *ℤ b) (unsigned_abs a * unsigned_abs b / unit)

-- a sine, a cosine or a product of two as a length along the radius, rounded half away from zero
unfoldable pub scaled : ℤ → ℤ
scaled m = with_sign_of m ((2 * unsigned_abs m * radius + unit) / (2 * unit))
